-- The only replies to a list of edits that are right, beside that memory ran out.
use Rattle.std.proofs.Common.{◌≡◌, ◌⊎◌, ℕ, ◌+◌, List, Some, None, refl, sym, ap, ◌∙◌, inl, inr}
use Rattle.std.proofs.lemmas.Option.{same_Some, none-some}
use Rattle.lay_doc.specs.Document.{Document}
use Rattle.lay_doc.specs.declared.edit.Edit.{Edit as Change}
use Rattle.lay_doc.specs.declared.edit.EditFault.{EditFault}
use Rattle.lay_history.specs.Edits.EditLists.{first}
use Rattle.lay_history.specs.declared.edits.command.Reply.{Reply}
use Rattle.lay_history.specs.declared.edits.command.Reply.TheVariants.{Accepted, Refused, Shown, NoMemory}
use Rattle.lay_history.specs.Legal.{AnswersEdits}

pub accepted_only : (d : Document) (count : ℕ) (edits : List Change) (r : Reply) → first d edits ≡ None → AnswersEdits d count edits r
    → (r ≡ NoMemory) ⊎ (Accepted (count + 1) ≡ r)
accepted_only d count edits (Accepted v) none is = inr (ap Accepted (sym is.1))
accepted_only d count edits (Refused k f) none is = absurd (none-some (k, f) (sym none ∙ is))
accepted_only d count edits (Shown v) none is = absurd is
accepted_only d count edits NoMemory none is = inl refl

pub refused_only : (d : Document) (count : ℕ) (edits : List Change) (place : ℕ) (f : EditFault) (r : Reply) → first d edits ≡ Some (place, f)
    → AnswersEdits d count edits r → (r ≡ NoMemory) ⊎ (Refused place f ≡ r)
refused_only d count edits place f (Accepted v) some is = absurd (none-some (place, f) (sym is.0 ∙ some))
refused_only d count edits place f (Refused k g) some is = inr (ap (λ (x : ℕ × EditFault). Refused x.0 x.1) (same_Some (place, f) (k, g) (sym some ∙ is)))
refused_only d count edits place f (Shown v) some is = absurd is
refused_only d count edits place f NoMemory some is = inl refl
