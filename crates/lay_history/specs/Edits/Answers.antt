-- What a list of edits is answered: its first fault with the place of that, or that it has none. Want of memory says neither.
use Rattle.std.specs.Prelude.{ℕ, ◌≡◌, ⊤, List, Some, None, Result, Ok, Err}
use Rattle.lay_doc.specs.declared.edit.Edit.{Edit}
use Rattle.lay_doc.specs.Document.{Document}
use Rattle.lay_doc.specs.Edits.{fault}
use Rattle.lay_history.specs.declared.edits.batch_fault.BatchFault.{BatchFault}
use Rattle.lay_history.specs.declared.edits.batch_fault.BatchFault.TheVariants.{At, NoMemory}
use Rattle.lay_history.specs.Edits.EditLists.{first}

-- the answer to a list of edits
abbrev pub AnswersFirst : {A : Type 0} → Document → List Edit → Result A BatchFault → Type 0
AnswersFirst d edits (Ok done) = first d edits ≡ None
AnswersFirst d edits (Err (At place f)) = first d edits ≡ Some (place, f)
AnswersFirst d edits (Err NoMemory) = ⊤

-- the answer to the edit at a place of a list, in the document as those before it left it
abbrev pub AnswersAt : {A : Type 0} → ℕ → Document → Edit → Result A BatchFault → Type 0
AnswersAt place d e (Ok done) = fault d e ≡ None
AnswersAt place d e (Err (At at f)) = (at ≡ place) × (fault d e ≡ Some f)
AnswersAt place d e (Err NoMemory) = ⊤
