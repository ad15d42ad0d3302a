-- A part's trees as a list of boxes: each box before its children, with the place of its parent box.
use Rattle.std.specs.Prelude.{ℕ, Bool, ◌+◌, List, [], ◌∷◌, ◌++◌, length, slice_get, if◌then◌else◌, Option, None, Some}
use Rattle.lay_style.specs.declared.style.Style.{Style}
use Rattle.lay_style.specs.ComputedStyle.{style_at}
use Rattle.lay_style.specs.Places.{place_of}
use Rattle.lay_doc.specs.declared.node.Node.{Node}
use Rattle.lay_doc.specs.Document.{Document, ids_of}
use Rattle.lay_boxgen.specs.AnonymousStyle.{anonymous_style}
use Rattle.lay_boxgen.specs.Boxes.{Tree, Trees, tree, no_trees, also, trees_of, facts_of}
use Rattle.lay_boxgen.specs.Forms.{is_anchor}
use Rattle.lay_boxgen.specs.Parts.{part}
use Rattle.lay_box_tree.specs.declared.box_tree.BoxKind.{BoxKind}
use Rattle.lay_box_tree.specs.declared.box_tree.BoxKind.TheVariants as kind
use Rattle.lay_box_tree.specs.declared.box_tree.BoxNode.{BoxNode}
use Rattle.lay_boxgen.specs.declared.facts.Facts.{Facts}
use Rattle.lay_boxgen.specs.declared.facts.Form.{Form}
use Rattle.lay_boxgen.specs.declared.facts.Form.TheVariants.{Block, InlineBlock, Inline, Text, Replaced, Wrapper}
use Rattle.lay_boxgen.specs.declared.facts.Form.TheVariants.{InlineWrapper, Table, Caption, RowGroup, HeaderGroup}
use Rattle.lay_boxgen.specs.declared.facts.Form.TheVariants.{FooterGroup, Row, ColumnGroup, Column, Cell, Anchor}

abbrev pub text_of : Option Node → List ℕ
text_of None = []
text_of (Some n) = n.text

abbrev pub text_at : List Node → ℕ → List ℕ
text_at nodes place = text_of (slice_get nodes place)

-- the kind of a box of this form, where its node has this text
abbrev pub kind_of : List ℕ → Form → BoxKind
kind_of text Block = kind.Block
kind_of text InlineBlock = kind.InlineBlock
kind_of text Inline = kind.Inline
kind_of text (Text t) = kind.Text text
kind_of text (Replaced w h inline) = kind.Replaced w h inline
kind_of text Wrapper = kind.Wrapper
kind_of text InlineWrapper = kind.InlineWrapper
kind_of text Table = kind.Table
kind_of text Caption = kind.Caption
kind_of text RowGroup = kind.RowGroup
kind_of text HeaderGroup = kind.HeaderGroup
kind_of text FooterGroup = kind.FooterGroup
kind_of text Row = kind.Row
kind_of text (ColumnGroup span) = kind.ColumnGroup span
kind_of text (Column span) = kind.Column span
kind_of text (Cell colspan rowspan) = kind.Cell colspan rowspan
kind_of text Anchor = kind.Anchor

-- the style of a box of a node with this style
abbrev pub box_style : Bool → Style → Style
box_style anonymous style = if anonymous then anonymous_style style else style

-- the style of a box with these facts
abbrev pub style_of : List Style → Facts → Style
style_of styles f = box_style f.anonymous (style_at styles f.place)

-- an anchor has the style of its parent box
abbrev pub style_below : List Style → Facts → Facts → Style
style_below styles above f = style_of styles (if is_anchor f.form then above else f)

-- the box with these facts below a parent box at a place
abbrev pub box_node : List Node → List Style → Facts → ℕ → Facts → BoxNode
box_node nodes styles above parent f = record {
  node = f.node;
  parent = parent;
  kind = kind_of (text_at nodes f.place) f.form;
  flow = f.flow;
  anonymous = f.anonymous;
  inner = f.inner;
  style = style_below styles above f;
}

-- the boxes of a tree below the box at `parent`, where its own box stands at the place `at`
abbrev mutual
  pub listed : List Node → List Style → Facts → ℕ → ℕ → Tree → List BoxNode
  listed nodes styles above parent at (tree f children) =
      box_node nodes styles above parent f ∷ all_listed nodes styles f at (at + 1) children

  pub all_listed : List Node → List Style → Facts → ℕ → ℕ → Trees → List BoxNode
  all_listed nodes styles above parent at no_trees = []
  all_listed nodes styles above parent at (also t ts) =
      listed nodes styles above parent at t
      ++ all_listed nodes styles above parent (at + length (listed nodes styles above parent at t)) ts

-- the boxes of a context, the first of which counts as its own parent box
abbrev pub listed_part : List Node → List Style → List Tree → List BoxNode
listed_part nodes styles [] = []
listed_part nodes styles (t ∷ ts) = all_listed nodes styles (facts_of t) 0 0 (trees_of (t ∷ ts))

abbrev pub boxes_at : List Node → List Style → Option ℕ → List BoxNode
boxes_at nodes styles None = []
boxes_at nodes styles (Some k) = listed_part nodes styles (part nodes styles k)

-- the boxes of the context of a document's node with this id
abbrev pub boxes_of : Document → List Style → ℕ → List BoxNode
boxes_of d styles id = boxes_at d.nodes styles (place_of id (ids_of d.nodes))
