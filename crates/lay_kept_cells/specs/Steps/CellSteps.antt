-- What is done to the cells of a document keeps them its cells: that they are made anew, a claim of a cell for the input that it would be
-- given now, a value that comes back, and a claim that is given back. A claim changes no value that is kept, so all cells would be given
-- what they were. A value that comes back changes what others are given only where they depend on its cell, which was dirty: so these are
-- dirty too, and their claims are stale. What cells keep whatever they are of is `IsSound` of lay_cells, and is known of the state after
-- each call.
use Rattle.std.specs.Prelude.{ℕ, ◌<◌, List, [], length}
use Rattle.lay_style.specs.declared.style.Style.{Style}
use Rattle.lay_style.specs.ComputedStyle.{HasStyles}
use Rattle.lay_doc.specs.Document.{Document, IsDocument, declarations_of, parents_of}
use Rattle.lay_face.specs.FaceValue.{FaceValue}
use Rattle.lay_cells.specs.Reshapes.{Reshapes}
use Rattle.lay_cells.specs.Rows.{Solved}
use Rattle.lay_cells.specs.Sound.{IsSound}
use Rattle.lay_cells.specs.Steps.{ClaimsIn, FinishesIn, GivesBackIn}
use Rattle.lay_cells.specs.declared.answers.Claimed.{Claimed}
use Rattle.lay_cells.specs.declared.answers.Finished.{Finished}
use Rattle.lay_cells.specs.declared.answers.Released.{Released}
use Rattle.lay_contexts.specs.Contexts.{Context}
use Rattle.lay_contexts.specs.ContextList.{AreContextsOf}
use Rattle.lay_contexts.specs.FormattingContexts.{FormattingContext}
use Rattle.lay_contexts.specs.FormattingContextList.{AreFormattingContextsOf}
use Rattle.lay_context.specs.declared.task.Phase.{Phase}
use Rattle.lay_context.specs.Solves.{medium_of}
use Rattle.lay_shape.specs.declared.cell_key.CellKey.{CellKey}
use Rattle.lay_shape.specs.Shapes.{shape_of}
use Rattle.lay_cell_work.specs.CellInputs.{CellInput}
use Rattle.lay_cell_work.specs.CellLocal.{IsCellLocal}
use Rattle.lay_cell_work.specs.CellValues.{CellValue}
use Rattle.lay_cell_work.specs.PresentInputs.{key_of}
use Rattle.lay_cell_work.specs.CellLaws.DocumentCells.{AreDocumentCells}
use Rattle.lay_cell_work.specs.CellLaws.SoundCells.{CellState, input_now}

-- no cells, where so many numbers are drawn
abbrev pub no_cells : (draws : ℕ) → CellState
no_cells draws = record { rows = []; draws = draws }

-- Cells that are all made anew, in the shape of the contexts of a document, are its cells.
abbrev pub NewCellsAreSound : Type 0
NewCellsAreSound = (d : Document) (face : FaceValue) (styles : List Style) (contexts : List Context) (all : List FormattingContext)
    (draws : ℕ) (fresh : List CellKey) (t : CellState) → IsDocument d
    → HasStyles (parents_of d.nodes) (declarations_of d.nodes) styles → AreContextsOf d.nodes styles contexts
    → AreFormattingContextsOf contexts all
    → Reshapes (no_cells draws) (shape_of contexts) fresh t → IsSound IsCellLocal t
    → AreDocumentCells d face contexts all t

-- They stay its cells when the cell of a context is claimed for what it would be given now,
abbrev pub ClaimsKeepCells : Type 0
ClaimsKeepCells = (d : Document) (face : FaceValue) (contexts : List Context) (all : List FormattingContext) (s t : CellState)
    (c : ℕ) (phase : Phase) (answer : Claimed) → AreDocumentCells d face contexts all s → c < length contexts
    → ClaimsIn s (key_of contexts c phase) (input_now (medium_of d face) contexts all s.rows c phase) answer t → IsSound IsCellLocal t
    → AreDocumentCells d face contexts all t

-- when work is handed in, whatever comes of it,
abbrev pub FinishesKeepCells : Type 0
FinishesKeepCells = (d : Document) (face : FaceValue) (contexts : List Context) (all : List FormattingContext) (s t : CellState)
    (done : Solved CellKey CellInput CellValue) (answer : Finished) → AreDocumentCells d face contexts all s
    → FinishesIn s done answer t → IsSound IsCellLocal t
    → AreDocumentCells d face contexts all t

-- and when a claim is given back.
abbrev pub GiveBacksKeepCells : Type 0
GiveBacksKeepCells = (d : Document) (face : FaceValue) (contexts : List Context) (all : List FormattingContext) (s t : CellState)
    (key : CellKey) (number : ℕ) (answer : Released) → AreDocumentCells d face contexts all s
    → GivesBackIn s key number answer t → IsSound IsCellLocal t
    → AreDocumentCells d face contexts all t
