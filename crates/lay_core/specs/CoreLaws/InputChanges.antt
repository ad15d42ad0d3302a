-- How often what a cell is given changes in a history: at each accepted list of edits before and after which the document has the cell, and
-- after which the cell is given another input in its layout than before.
use Rattle.std.specs.Prelude.{ℕ, ◌≡◌, ◌≢◌, ◌+◌, Bool, true, false, List, [], ◌∷◌, length, slice_get, Some}
use Rattle.lay_doc.specs.Document.{Document}
use Rattle.lay_history.specs.declared.edits.history.Entry.{Entry}
use Rattle.lay_face.specs.FaceValue.{FaceValue}
use Rattle.lay_history.specs.Histories.{accepted, doc_at}
use Rattle.lay_positioned.specs.Levels.{one_if}
use Rattle.lay_shape.specs.declared.cell_key.CellKey.{CellKey}
use Rattle.lay_cell_work.specs.CellInputs.{CellInput}
use Rattle.lay_core.specs.CoreLaws.GivenInputs.{HasCell, IsGivenIn}

-- the cell of the key is given the same in both documents
pub record KeepsInput (face : FaceValue) (key : CellKey) (d e : Document) : Type 0 where
  pub input : CellInput
  pub before : IsGivenIn d face key input
  pub after : IsGivenIn e face key input

-- it is given another input in the second
pub record ChangesInput (face : FaceValue) (key : CellKey) (d e : Document) : Type 0 where
  pub old : CellInput
  pub new : CellInput
  pub before : IsGivenIn d face key old
  pub after : IsGivenIn e face key new
  pub other : old ≢ new

-- whether it is; where it isn't, the cell isn't in both documents, or is given the same
abbrev pub IsInputChange : FaceValue → CellKey → (d e : Document) → Bool → Type 0
IsInputChange face key d e true = ChangesInput face key d e
IsInputChange face key d e false = HasCell d key → HasCell e key → KeepsInput face key d e

-- so it is said of each accepted list of edits of a history, in order
pub record AreChanges (init : Document) (face : FaceValue) (history : List Entry) (key : CellKey) (flags : List Bool) : Type 0 where
  pub count : length flags ≡ accepted history
  pub each : (version : ℕ) (flag : Bool) → slice_get flags version ≡ Some flag
      → IsInputChange face key (doc_at init history version) (doc_at init history (version + 1)) flag

-- how many lists of edits change it
abbrev pub changes : List Bool → ℕ
changes [] = 0
changes (flag ∷ flags) = one_if flag + changes flags
