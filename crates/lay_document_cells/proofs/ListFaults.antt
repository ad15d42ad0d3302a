-- What faults a list of edits has: one without any has none at its first edit, and want of memory says nothing of them.
use Rattle.std.proofs.Common.{◌≡◌, List, [], ◌∷◌, None, Result, Ok, Err, IfErr, refl}
use Rattle.std.specs.Prelude.{IsErrAnd}
use Rattle.lay_doc.specs.declared.edit.Edit.{Edit}
use Rattle.lay_doc.specs.Document.{Document}
use Rattle.lay_history.specs.Edits.Answers.{AnswersFirst}
use Rattle.lay_history.specs.Edits.EditLists.{fault_at, first}
use Rattle.lay_history.specs.declared.edits.batch_fault.BatchFault.{BatchFault}
use Rattle.lay_history.specs.declared.edits.batch_fault.BatchFault.TheVariants.{At, NoMemory}
use Rattle.lay_document_cells.proofs.Cited.{none_first}

pub none_at_first : (d : Document) (edits : List Edit) → first d edits ≡ None → fault_at d edits 0 ≡ None
none_at_first d [] none = refl
none_at_first d (e ∷ es) none = (none_first d e es none).0

pub if_err_all : {A E : Type 0} (o : Result A E) (P : E → Type 0) → ((e : E) → P e) → IfErr o P
if_err_all (Ok a) P h = tt
if_err_all (Err e) P h = h e

pub ran_out_answers : {A : Type 0} (d : Document) (edits : List Edit) (o : Result A BatchFault) → IsErrAnd o (λ e. e ≡ NoMemory) → AnswersFirst d edits o
ran_out_answers d edits (Ok a) ran_out = absurd ran_out
ran_out_answers d edits (Err NoMemory) ran_out = tt
ran_out_answers d edits (Err (At place f)) ran_out = absurd cc
