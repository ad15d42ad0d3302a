-- How often the input of a cell turned in a history: there are so many versions after the first, one behind another, in each of which the
-- cell is given another input than in the one before. The document has the cell all along.
use Rattle.std.specs.Prelude.{ℕ, suc, ◌≡◌, ◌≢◌, ◌<◌, ◌≤◌, List, Option, None, Some}
use Rattle.lay_doc.specs.Document.{Document}
use Rattle.lay_history.specs.declared.edits.history.Entry.{Entry}
use Rattle.lay_face.specs.FaceValue.{FaceValue}
use Rattle.lay_history.specs.Histories.{accepted, doc_at}
use Rattle.lay_shape.specs.declared.cell_key.CellKey.{CellKey}
use Rattle.lay_cell_work.specs.CellInputs.{CellInput}
use Rattle.lay_core.specs.CoreLaws.GivenInputs.{HasCell, IsGivenIn}

-- the document has the cell of the key from the one version to the other
abbrev pub StaysThere : Document → List Entry → CellKey → (from to : ℕ) → Type 0
StaysThere init history key from to = (version : ℕ) → from ≤ version → version ≤ to → HasCell (doc_at init history version) key

-- after so many turns the cell is given this input in this version
pub data Turned (init : Document) (face : FaceValue) (history : List Entry) (key : CellKey) : (turns version : ℕ) → CellInput → Type 0 where
  first : (version : ℕ) (input : CellInput) → version ≤ accepted history → IsGivenIn (doc_at init history version) face key input
      → Turned init face history key 0 version input
  again : (turns before version : ℕ) (old new : CellInput) → Turned init face history key turns before old
      → before < version → version ≤ accepted history → StaysThere init history key before version
      → IsGivenIn (doc_at init history version) face key new → old ≢ new
      → Turned init face history key (suc turns) version new

-- so it was in some version, and the document has the cell since
pub record HasTurnedTo (init : Document) (face : FaceValue) (history : List Entry) (key : CellKey) (turns : ℕ) (input : CellInput)
    : Type 0 where
  pub version : ℕ
  pub within : version ≤ accepted history
  pub turned : Turned init face history key turns version input
  pub stays : StaysThere init history key version (accepted history)

-- this input was handed in last, if there was one, after so many turns
pub record HasTurned (init : Document) (face : FaceValue) (history : List Entry) (key : CellKey) (given : Option CellInput) (turns : ℕ)
    : Type 0 where
  pub none : given ≡ None → turns ≡ 0
  pub some : (input : CellInput) → given ≡ Some input → HasTurnedTo init face history key turns input
