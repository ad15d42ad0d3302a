-- An edit alone that has a fault is refused for it.
use Rattle.std.proofs.Common.{◌≡◌, ◌∙◌, ℕ, List, [], ◌∷◌, take, Option, Some, None, refl, sym, ap}
use Rattle.std.proofs.lemmas.Option.{none-some, same_Some}
use Rattle.lay_doc.specs.Document.{Document}
use Rattle.lay_doc.specs.Edits.{after, fault}
use Rattle.lay_doc.specs.declared.edit.Edit.{Edit as Change}
use Rattle.lay_doc.specs.declared.edit.EditFault.{EditFault}
use Rattle.lay_history.specs.Edits.EditLists.{first, first_or}
use Rattle.lay_history.specs.declared.edits.command.Reply.{Reply}
use Rattle.lay_history.specs.declared.edits.command.Reply.TheVariants.{Accepted, Refused, Shown, NoMemory}
use Rattle.lay_history.specs.declared.edits.history.Entry.TheVariants.{Edit}
use Rattle.lay_history.specs.Histories.{accepted}
use Rattle.lay_history.specs.Legal.{AnswersEdits, doc_after}
use Rattle.lay_audit.specs.Laws.{FaultsAreRefused}

refused_for : (d : Document) (count : ℕ) (edit : Change) (f : EditFault) (reply : Reply) → fault d edit ≡ Some f
    → AnswersEdits d count (edit ∷ []) reply → reply ≡ Refused 0 f
refused_for d count edit f reply has right = by reply right
  where
    first_is : first d (edit ∷ []) ≡ Some (0, f)
    first_is = ap (λ o. first_or o (first (after d edit) [])) has

    by : (r : Reply) → AnswersEdits d count (edit ∷ []) r → r ≡ Refused 0 f
    by (Accepted version) a = absurd (none-some (0, f) (sym a.0 ∙ first_is))
    by (Refused place g) a = let same = same_Some (place, g) (0, f) (sym a ∙ first_is) in ap (λ (p : ℕ × EditFault). Refused p.0 p.1) same
    by (Shown version) a = absurd a
    by NoMemory a = absurd (none-some f (sym (a refl) ∙ has))

pub faults_are_refused : FaultsAreRefused
faults_are_refused init history k editor index edit f reply legal at has =
    refused_for (doc_after init (take k history)) (accepted (take k history)) edit f reply has (legal k (Edit editor index (edit ∷ []) reply) at)
