-- What is known of cells since all of them were clean is kept by claims, by what comes of them, and by edits that leave which contexts
-- there are and how their cells depend on each other; and what it is good for: an unchanged cell keeps what it would be given now
-- (CSS 2.2, 9.4.1).
use Rattle.std.specs.Prelude.{ℕ, ◌≡◌, ◌<◌, Bool, List, length}
use Rattle.lay_doc.specs.Document.{Document}
use Rattle.lay_face.specs.FaceValue.{FaceValue}
use Rattle.lay_cells.specs.Marks.{Marks}
use Rattle.lay_cells.specs.Places.{AtPlace}
use Rattle.lay_cells.specs.Reads.{AllClean}
use Rattle.lay_cells.specs.Rows.{Solved}
use Rattle.lay_cells.specs.Steps.{ClaimsIn, FinishesIn, GivesBackIn, HasKept}
use Rattle.lay_cells.specs.declared.answers.Claimed.{Claimed}
use Rattle.lay_cells.specs.declared.answers.Finished.{Finished}
use Rattle.lay_cells.specs.declared.answers.Released.{Released}
use Rattle.lay_contexts.specs.Contexts.{Context}
use Rattle.lay_contexts.specs.FormattingContexts.{FormattingContext}
use Rattle.lay_context.specs.declared.task.Phase.{Phase}
use Rattle.lay_context.specs.Medium.{Medium}
use Rattle.lay_context.specs.Solves.{medium_of}
use Rattle.lay_shape.specs.declared.cell_key.CellKey.{CellKey}
use Rattle.lay_cell_work.specs.CellInputs.{CellInput}
use Rattle.lay_cell_work.specs.CellValues.{CellValue}
use Rattle.lay_cell_work.specs.PresentInputs.{key_of}
use Rattle.lay_cell_work.specs.CellLaws.DocumentCells.{AreDocumentCells}
use Rattle.lay_cell_work.specs.CellLaws.SoundCells.{CellRow, CellState, input_now}
use Rattle.lay_shape.specs.KeptShapes.KeptBoxes.{KeepCells}
use Rattle.lay_kept_cells.specs.Settled.Since.{IsSince, IsUnchanged, Since, either}

-- where all cells are clean it begins with an edit: cells are marked, and the boxes of some contexts may change
abbrev pub EditsBeginSince : Type 0
EditsBeginSince = (d : Document) (face : FaceValue) (contexts later : List Context) (all : List FormattingContext) (s t : CellState)
    (made : List Bool) (keys : List CellKey) → AreDocumentCells d face contexts all s → AllClean s.rows
    → KeepCells contexts later made → Marks s.rows keys t.rows → t.draws ≡ s.draws
    → IsSince (medium_of d face) later t (record { number = s.draws; changed = made })

abbrev pub ClaimsKeepSince : Type 0
ClaimsKeepSince = (medium : Medium) (contexts : List Context) (s t : CellState) (since : Since)
    (key : CellKey) (input : CellInput) (answer : Claimed)
    → IsSince medium contexts s since → ClaimsIn s key input answer t → IsSince medium contexts t since

abbrev pub FinishesKeepSince : Type 0
FinishesKeepSince = (medium : Medium) (contexts : List Context) (s t : CellState) (since : Since)
    (done : Solved CellKey CellInput CellValue) (answer : Finished)
    → IsSince medium contexts s since → FinishesIn s done answer t → IsSince medium contexts t since

abbrev pub GiveBacksKeepSince : Type 0
GiveBacksKeepSince = (medium : Medium) (contexts : List Context) (s t : CellState) (since : Since)
    (key : CellKey) (number : ℕ) (answer : Released)
    → IsSince medium contexts s since → GivesBackIn s key number answer t → IsSince medium contexts t since

-- and by another edit
abbrev pub EditsKeepSince : Type 0
EditsKeepSince = (medium : Medium) (contexts later : List Context) (s t : CellState) (since : Since)
    (made : List Bool) (keys : List CellKey)
    → IsSince medium contexts s since → KeepCells contexts later made → Marks s.rows keys t.rows → t.draws ≡ s.draws
    → IsSince medium later t (record { number = since.number; changed = either since.changed made })

-- the row is of the cell of a context, and keeps what this would be given now
pub record KeepsPresent (medium : Medium) (contexts : List Context) (all : List FormattingContext) (rows : List CellRow)
    (r : CellRow) : Type 0 where
  pub context : ℕ
  pub phase : Phase
  pub within : context < length contexts
  pub key_is : r.key ≡ key_of contexts context phase
  pub kept : HasKept r (input_now medium contexts all rows context phase)

-- an unchanged cell does
abbrev pub UnchangedCellsKeepInputs : Type 0
UnchangedCellsKeepInputs = (d : Document) (face : FaceValue) (contexts : List Context) (all : List FormattingContext) (s : CellState)
    (since : Since) (place : ℕ) → AreDocumentCells d face contexts all s → IsSince (medium_of d face) contexts s since
    → IsUnchanged contexts s.rows since place
    → AtPlace s.rows place (KeepsPresent (medium_of d face) contexts all s.rows)
