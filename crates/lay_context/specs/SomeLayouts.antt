-- Each task has a value beside what it is given, and so formatting contexts have a tree that solves them, and each document has a layout
-- (CSS 2.2, chapters 8 to 10 and 17).
use Rattle.std.specs.Prelude.{⊤, List}
use Rattle.lay_doc.specs.Document.{Document, IsDocument}
use Rattle.lay_face.specs.FaceValue.{FaceValue}
use Rattle.lay_frag.specs.Pieces.{Context as PageContext}
use Rattle.lay_box_tree.specs.ContextBoxes.{AreContextBoxes}
use Rattle.lay_contexts.specs.FormattingContexts.{AreFormattingContexts, FormattingContext}
use Rattle.lay_placements.specs.declared.corner.Corner.{Corner}
use Rattle.lay_context.specs.declared.input.Input.{Input}
use Rattle.lay_context.specs.declared.input.Input.TheVariants as input
use Rattle.lay_context.specs.declared.value.Value.{Value}
use Rattle.lay_context.specs.Local.{IsLocal}
use Rattle.lay_context.specs.Medium.{Medium}
use Rattle.lay_context.specs.PageCorners.{HasPageCorners}
use Rattle.lay_context.specs.PlacedContexts.{PlacedContext}
use Rattle.lay_context.specs.Solves.{Solves, SolvesContexts}

-- the boxes that a task is given to size or to place in block flow are those of a formatting context
abbrev pub AreGivenBoxes : Input → Type 0
AreGivenBoxes (input.Measure i) = ⊤
AreGivenBoxes input.Unmeasured = ⊤
AreGivenBoxes (input.Size i) = AreContextBoxes i.boxes
AreGivenBoxes (input.Place i at) = AreContextBoxes i.boxes
AreGivenBoxes (input.PlaceTable i at) = ⊤

-- beside such boxes a task has a value
abbrev pub SomeLocal : Type 0
SomeLocal = (i : Input) → AreGivenBoxes i → (v : Value) × IsLocal i v

-- formatting contexts that are placed so stand on the page
abbrev pub SomePageCorners : Type 0
SomePageCorners = (contexts : List FormattingContext) (places : List PlacedContext) → AreFormattingContexts contexts
    → (corners : List Corner) × HasPageCorners contexts places corners

-- formatting contexts have a tree on each medium
abbrev pub SomeTree : Type 0
SomeTree = (medium : Medium) (contexts : List FormattingContext) → AreFormattingContexts contexts
    → (tree : List PageContext) × SolvesContexts medium contexts tree

-- and so has each document a layout in each face
abbrev pub SomeLayout : Type 0
SomeLayout = (d : Document) (face : FaceValue) → IsDocument d → (tree : List PageContext) × Solves d face tree
