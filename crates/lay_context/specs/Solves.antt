-- What it means that a tree solves a document: there are workings, a column of a value per formatting context for each quantity,
-- that meet their equations, and the tree's rectangles are theirs. They are computed styles (CSS 2.2, 6.1), the contexts and the
-- boxes that they generate (9.2 and 9.4.1), the formatting contexts of these, with those of anonymous tables and cells (17.2.1),
-- preferred widths where they count, each one's beside those of the ones inside it (10.3.5, 17.5.2), used sizes, each beside the
-- containing block that the one around gives (10.1 to 10.5, 17.5.2), the placement of each beside those inside it (8.3.1, 9.4,
-- 9.5, 10.6, 17.5.3), and where they stand on the page. `Local` says of each value what it is right beside. A document whose root
-- generates no box has the tree without contexts.
use Rattle.std.specs.Prelude.{ℕ, zero, suc, ◌≡◌, ◌<◌, Bool, true, false, List, [], ◌∷◌, ◌++◌, length, slice_index, Option, None, Some}
use Rattle.lay_units.specs.declared.length.Unit.{Unit as Length}
use Rattle.lay_units.specs.declared.records.Len.TheVariants.{Of as of}
use Rattle.lay_units.specs.declared.records.Rect.{Rect}
use Rattle.lay_style.specs.declared.style.Style.{Style}
use Rattle.lay_style.specs.LengthValues.{px}
use Rattle.lay_style.specs.ComputedStyle.{HasStyles}
use Rattle.lay_doc.specs.Document.{Document, parents_of, declarations_of}
use Rattle.lay_box_tree.specs.BoxColumns.{box_ids}
use Rattle.lay_face.specs.FaceValue.{FaceValue}
use Rattle.lay_frag.specs.Pieces.{Context as PageContext}
use Rattle.lay_sizes.specs.declared.own_boxes.OwnBox.{OwnBox}
use Rattle.lay_sizes.specs.declared.sizing.ContainingBlock.{ContainingBlock}
use Rattle.lay_contexts.specs.Contexts.{Context}
use Rattle.lay_contexts.specs.ContextList.{AreContextsOf}
use Rattle.lay_contexts.specs.FormattingContexts.{FormattingContext, boxes_in, formatting_context_at}
use Rattle.lay_contexts.specs.FormattingContextList.{AreFormattingContextsOf}
use Rattle.lay_table_sizes.specs.declared.cell_size.CellSize.{CellSize}
use Rattle.lay_placements.specs.declared.corner.Corner.{Corner}
use Rattle.lay_placements.specs.Corners.{corner_at}
use Rattle.lay_context.specs.declared.task.Task.{Task}
use Rattle.lay_context.specs.Local.{HasCounts, IsTaskDone}
use Rattle.lay_context.specs.Workings.{Workings}
use Rattle.lay_context.specs.Medium.{Medium}
use Rattle.lay_context.specs.PageCorners.{HasPageCorners, standing_of}
use Rattle.lay_context.specs.PlacedContexts.{placement_in}
use Rattle.lay_context.specs.Settings.{given_cell_size}

-- A cell is as wide as its columns, also where these are narrower than its borders and paddings (17.5.2.1). Others are as wide as
-- they laid themselves out.
abbrev pub page_width : Option CellSize → OwnBox → Length
page_width None own = own.width
page_width (Some cell) own = cell.width

-- the border box of the formatting context with the number i on the page, as high as it stands outside, since a cell is stretched to
-- its rows (17.5.3)
abbrev pub page_rect : List FormattingContext → Workings → List Corner → ℕ → Rect
page_rect contexts w corners i = record {
  x = (corner_at corners i).x;
  y = (corner_at corners i).y;
  w = page_width (given_cell_size contexts w.sizes i) (placement_in w.places i).own;
  h = (standing_of contexts w.places i).height;
}

-- it as a context of a tree: its node, that border box, how far what is in it is moved down, and its pieces
abbrev pub page_context : List FormattingContext → Workings → List Corner → ℕ → PageContext
page_context contexts w corners i = record {
  node = record { 0 = slice_index (box_ids (boxes_in contexts i)) 0 };
  rect = page_rect contexts w corners i;
  shift = (standing_of contexts w.places i).shift;
  pieces = (placement_in w.places i).pieces;
}

-- an anonymous formatting context is none of a tree, since the one around paints it
abbrev pub listed_unless_anonymous : (is_anonymous : Bool) → PageContext → List PageContext
listed_unless_anonymous true c = []
listed_unless_anonymous false c = c ∷ []

-- the contexts of the first n
abbrev pub page_contexts : List FormattingContext → Workings → List Corner → (n : ℕ) → List PageContext
page_contexts contexts w corners zero = []
page_contexts contexts w corners (suc n) =
    page_contexts contexts w corners n
    ++ listed_unless_anonymous (formatting_context_at contexts n).anonymous (page_context contexts w corners n)

-- the tree is put together of these values, each where it stands on the page
pub record IsAssembled (contexts : List FormattingContext) (w : Workings) (tree : List PageContext) : Type 0 where
  pub corners : List Corner
  pub has_corners : HasPageCorners contexts w.places corners
  pub tree_is : tree ≡ page_contexts contexts w corners (length contexts)

-- the tree of these formatting contexts, on a medium, has the rectangles of workings that meet their equations
pub record SolvesContexts (medium : Medium) (contexts : List FormattingContext) (tree : List PageContext) : Type 0 where
  pub workings : Workings
  pub counts : HasCounts contexts workings
  pub done : (task : Task) → task.context < length contexts → IsTaskDone medium contexts workings task
  pub assembled : IsAssembled contexts workings tree

-- the viewport as the root's containing block (10.1)
abbrev pub viewport_of : Document → ContainingBlock
viewport_of d = record { width = px d.width; height = of (px d.height) }

-- what the document is laid out on
abbrev pub medium_of : Document → FaceValue → Medium
medium_of d face = record { viewport = viewport_of d; face = face }

-- the tree is the layout of the document in a face
pub record Solves (d : Document) (face : FaceValue) (tree : List PageContext) : Type 0 where
  pub styles : List Style
  pub has_styles : HasStyles (parents_of d.nodes) (declarations_of d.nodes) styles
  pub contexts : List Context
  pub are_contexts : AreContextsOf d.nodes styles contexts
  pub formatting_contexts : List FormattingContext
  pub are_formatting_contexts : AreFormattingContextsOf contexts formatting_contexts
  pub solves_contexts : SolvesContexts (medium_of d face) formatting_contexts tree
