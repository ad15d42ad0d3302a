-- Cells that keep values of a document. There is a cell for each context (CSS 2.2, 9.4.1) and phase, under the id of its node; and what a
-- clean cell keeps is of the input that it would be given now. Then the values of cells that are all clean meet the equations of all
-- formatting contexts: no order of tasks is needed for that, as each value is right beside the others as they are.
use Rattle.std.specs.Prelude.{ℕ, ◌≡◌, ◌<◌, false, List, length, Some}
use Rattle.lay_style.specs.declared.style.Style.{Style}
use Rattle.lay_style.specs.ComputedStyle.{HasStyles}
use Rattle.lay_doc.specs.Document.{Document, IsDocument, declarations_of, parents_of}
use Rattle.lay_face.specs.FaceValue.{FaceValue}
use Rattle.lay_frag.specs.Pieces.{Context as PageContext}
use Rattle.lay_cells.specs.Shapes.{IsIn}
use Rattle.lay_cells.specs.Reads.{AllClean}
use Rattle.lay_cells.specs.Rows.{Row, State}
use Rattle.lay_cells.specs.Sound.{IsSound}
use Rattle.lay_cells.specs.Steps.{HasKept, IsStale}
use Rattle.lay_contexts.specs.Contexts.{Context}
use Rattle.lay_contexts.specs.ContextList.{AreContextsOf}
use Rattle.lay_contexts.specs.FormattingContexts.{FormattingContext}
use Rattle.lay_contexts.specs.FormattingContextList.{AreFormattingContextsOf}
use Rattle.lay_context.specs.declared.task.Phase.{Phase}
use Rattle.lay_context.specs.Medium.{Medium}
use Rattle.lay_context.specs.Solves.{IsAssembled, Solves, medium_of}
use Rattle.lay_cell_work.specs.CellInputs.{CellInput}
use Rattle.lay_shape.specs.declared.cell_key.CellKey.{CellKey}
use Rattle.lay_cell_work.specs.CellLocal.{IsCellLocal}
use Rattle.lay_cell_work.specs.CellValues.{CellValue}
use Rattle.lay_cell_work.specs.KeptValues.{kept_workings}
use Rattle.lay_cell_work.specs.PresentInputs.{key_of, present_input}

abbrev pub CellRow : Type 0
CellRow = Row CellKey CellInput CellValue

abbrev pub CellState : Type 0
CellState = State CellKey CellInput CellValue

-- the cell of a context and phase
pub record IsCellOf (rows : List CellRow) (contexts : List Context) (c : ℕ) (phase : Phase) (r : CellRow) : Type 0 where
  pub there : IsIn rows r
  pub key : r.key ≡ key_of contexts c phase

-- what it would be given now
abbrev pub input_now : Medium → List Context → List FormattingContext → List CellRow → (c : ℕ) → Phase → CellInput
input_now medium contexts all rows c phase = present_input medium contexts all (kept_workings rows contexts) c phase

-- The cells keep values of these contexts: each context has its three cells, what a clean one keeps is of what it would be given now, and
-- so is an open claim that isn't stale.
pub record AreCellsOf (medium : Medium) (contexts : List Context) (all : List FormattingContext) (s : CellState) : Type 0 where
  pub sound : IsSound IsCellLocal s
  pub has_cells : (c : ℕ) (phase : Phase) → c < length contexts → (r : CellRow) × IsCellOf s.rows contexts c phase r
  pub present : (c : ℕ) (phase : Phase) (r : CellRow) → c < length contexts → IsCellOf s.rows contexts c phase r → r.dirty ≡ false
      → HasKept r (input_now medium contexts all s.rows c phase)
  pub open_present : (c : ℕ) (phase : Phase) (r : CellRow) → c < length contexts → IsCellOf s.rows contexts c phase r → IsStale r false
      → r.given ≡ Some (input_now medium contexts all s.rows c phase)

-- The cells keep values of the document: of its contexts, which its styles decide.
pub record IsSoundOf (d : Document) (face : FaceValue) (s : CellState) : Type 0 where
  pub styles : List Style
  pub has_styles : HasStyles (parents_of d.nodes) (declarations_of d.nodes) styles
  pub contexts : List Context
  pub are_contexts : AreContextsOf d.nodes styles contexts
  pub formatting_contexts : List FormattingContext
  pub are_formatting_contexts : AreFormattingContextsOf contexts formatting_contexts
  pub cells : AreCellsOf (medium_of d face) contexts formatting_contexts s

-- Where all cells are clean, the tree of the values that they keep is the layout of the document.
abbrev pub CleanCellsSolve : Type 0
CleanCellsSolve = (d : Document) (face : FaceValue) (s : CellState) (tree : List PageContext) → IsDocument d → (of : IsSoundOf d face s)
    → AllClean s.rows
    → IsAssembled of.formatting_contexts (kept_workings s.rows of.contexts) tree → Solves d face tree
