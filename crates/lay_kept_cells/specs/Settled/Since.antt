-- What is known of the cells of a document since all of them were clean: then each kept what it was given (CSS 2.2, 9.4.1). Edits since
-- then left which contexts there are and how their cells depend on each other, and of some it is noted that their boxes may have changed.
use Rattle.std.specs.Prelude.{ℕ, ◌≡◌, ◌≢◌, ◌≤◌, ◌<◌, ◌||◌, Bool, false, List, [], ◌∷◌, slice_get, Some}
use Rattle.lay_doc.specs.Document.{Document}
use Rattle.lay_face.specs.FaceValue.{FaceValue}
use Rattle.lay_cells.specs.Places.{AtPlace, IsNeedAt}
use Rattle.lay_cells.specs.Reads.{AllClean}
use Rattle.lay_cells.specs.Rows.{Solved}
use Rattle.lay_cells.specs.Steps.{IsOpen}
use Rattle.lay_contexts.specs.Contexts.{Context}
use Rattle.lay_context.specs.declared.task.Phase.TheVariants.{Measure}
use Rattle.lay_context.specs.Medium.{Medium}
use Rattle.lay_context.specs.Solves.{medium_of}
use Rattle.lay_shape.specs.Touched.ContextFlags.{ContextLists}
use Rattle.lay_shape.specs.declared.cell_key.CellKey.{CellKey}
use Rattle.lay_shape.specs.declared.context_phase.ContextPhase.{ContextPhase}
use Rattle.lay_shape.specs.Shapes.{cells_of}
use Rattle.lay_cell_work.specs.CellInputs.{CellInput}
use Rattle.lay_cell_work.specs.CellValues.{CellValue}
use Rattle.lay_cell_work.specs.CellLaws.DocumentCells.{AreDocumentCells}
use Rattle.lay_cell_work.specs.CellLaws.SoundCells.{CellRow, CellState}
use Rattle.lay_shape.specs.KeptShapes.KeptBoxes.{KeepCells}
use Rattle.lay_after_edits.specs.Contexts.Links.{is_made}

-- the greatest number that was drawn then, and for each context whether its boxes may have changed since
pub record Since : Type 0 where
  pub number : ℕ
  pub changed : List Bool

abbrev pub either : List Bool → List Bool → List Bool
either [] ys = []
either (x ∷ xs) [] = x ∷ xs
either (x ∷ xs) (y ∷ ys) = (x || y) ∷ either xs ys

-- A pair with a number up to this one is kept where it was kept then, and a claim that is open has a greater number: none was open then.
pub record KeepSince (number : ℕ) (settled rows : List CellRow) : Type 0 where
  pub kept : (place : ℕ) (r : CellRow) (d : Solved CellKey CellInput CellValue) → slice_get rows place ≡ Some r → r.kept ≡ Some d
      → d.number ≤ number → AtPlace settled place (λ q. q.kept ≡ Some d)
  pub opened : (place : ℕ) (r : CellRow) (n : ℕ) → slice_get rows place ≡ Some r → IsOpen r n → number < n

-- this is known of the cells of these contexts, which are laid out on this
pub record IsSince (medium : Medium) (contexts : List Context) (s : CellState) (since : Since) : Type 0 where
  pub document : Document
  pub face : FaceValue
  pub before : ContextLists
  pub settled : CellState
  pub medium_is : medium ≡ medium_of document face
  pub were : AreDocumentCells document face before.contexts before.formatting_contexts settled
  pub clean : AllClean settled.rows
  pub same : KeepCells before.contexts contexts since.changed
  pub drawn : since.number ≤ s.draws
  pub keep : KeepSince since.number settled.rows s.rows

-- the cell at the place is of a context that has the boxes that it had, and keeps what it kept
pub record KeepsThen (contexts : List Context) (rows : List CellRow) (since : Since) (place : ℕ) : Type 0 where
  pub cell : ContextPhase
  pub cell_is : slice_get (cells_of contexts) place ≡ Some cell
  pub same : is_made since.changed cell.context ≡ false
  pub row : CellRow
  pub there : slice_get rows place ≡ Some row
  pub done : Solved CellKey CellInput CellValue
  pub kept : row.kept ≡ Some done
  pub number : done.number ≤ since.number

abbrev pub KeepAllThen : List Context → List CellRow → Since → List ℕ → Type 0
KeepAllThen contexts rows since places = (j need : ℕ) → slice_get places j ≡ Some need → KeepsThen contexts rows since need

-- and so does each cell that it depends on. Whether preferred widths count is not noted, so it isn't for these.
pub record IsUnchanged (contexts : List Context) (rows : List CellRow) (since : Since) (place : ℕ) : Type 0 where
  pub own : KeepsThen contexts rows since place
  pub phase : own.cell.phase ≢ Measure
  pub needs : (j need : ℕ) → IsNeedAt rows place j need → KeepsThen contexts rows since need
