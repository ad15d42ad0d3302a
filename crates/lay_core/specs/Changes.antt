-- What a list of edits with this reply changes of a document with its cells, and of the number of accepted lists.
use Rattle.std.specs.Prelude.{ℕ, ◌≡◌, ◌+◌, List, Some, None}
use Rattle.lay_doc.specs.declared.edit.Edit.{Edit as Change}
use Rattle.lay_history.specs.Edits.EditLists.{fault_at, first}
use Rattle.lay_history.specs.declared.edits.command.Reply.{Reply}
use Rattle.lay_history.specs.declared.edits.command.Reply.TheVariants.{Accepted, Refused, Shown, NoMemory}
use Rattle.lay_document_cells.specs.Edits.{CellsEditTo}
use Rattle.lay_document_cells.specs.State.{State as DocumentCells}

abbrev pub ChangesTo : List Change → Reply → DocumentCells × ℕ → DocumentCells × ℕ → Type 0
ChangesTo edits (Accepted version) (d, count) (d', count') =
    (first d.document edits ≡ None) × (version ≡ count + 1) × CellsEditTo d edits d' × (count' ≡ count + 1)
ChangesTo edits (Refused place f) (d, count) (d', count') = (first d.document edits ≡ Some (place, f)) × (d' ≡ d) × (count' ≡ count)
ChangesTo edits (Shown version) was is = ⊥
ChangesTo edits NoMemory (d, count) (d', count') = (fault_at d.document edits 0 ≡ None) × (d' ≡ d) × (count' ≡ count)
