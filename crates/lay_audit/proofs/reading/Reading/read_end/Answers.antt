use Rattle.std.proofs.Common.{◌≡◌, ◌+◌, List, ℕ, [], Some, IfSome, sym, subst}
use Rattle.lay_doc.specs.Document.{Document}
use Rattle.lay_audit.specs.LegalReports.{Basis}
use Rattle.lay_audit.specs.Readings.{HasLayout, IsAtEnd, IsFinalNext, IsRead, NoStep, ReadingValue, basis_of}
use Rattle.lay_audit.specs.Verdicts.{IsFirstBad, IsVerdict}
use Rattle.lay_audit.proofs.Judging.{bad_entry, ends_here}
use Rattle.lay_audit.proofs.Taking.{if_verdict}
use Rattle.lay_audit.proofs.reading.Reading.read_end.Goals as goal

pub returns-in-Some : goal.returns-in-Some
returns-in-Some c =
    if_verdict c.read_last_tree.result
    (λ v. (basis : Basis) (text : List ℕ) → IsAtEnd basis text (c.self.inside.lines + 1) c.in-Some.rest.now c.self.inside.tree.contexts c.self.inside.tree.text → IsVerdict basis text v)
    (λ v. (init : Document) (text : List ℕ) → IsRead (basis_of init c.args.face.now.value c.args.scripts.now) text c.args.self.now []
    → NoStep c.args.scripts.now c.args.self.now → IsVerdict (basis_of init c.args.face.now.value c.args.scripts.now) text v)
    c.read_last_tree.ensures
    (λ v f init text is none. f (basis_of init c.args.face.now.value c.args.scripts.now) text
    (subst (λ (x : ReadingValue). IsAtEnd (basis_of init c.args.face.now.value c.args.scripts.now) text (x.lines + 1) c.in-Some.rest.now x.tree.contexts x.tree.text) (sym c.self.view_is)
    (ends_here c.one_solution.ensures (basis_of init c.args.face.now.value c.args.scripts.now) text c.args.self.now c.in-Some.rest.now is
    (subst (λ o. IfSome o (λ x. IsFinalNext c.args.scripts.now c.args.self.now x.now)) c.in-Some.is (c.in_ok-rest.ensures {u = tt}).some))))

pub returns-in_ok-can_complete-in-None : goal.returns-in_ok-can_complete-in-None
returns-in_ok-can_complete-in-None c = λ init text is none.
    subst (λ (x : ReadingValue). IsFirstBad (basis_of init c.args.face.now.value c.args.scripts.now) text (x.lines + 1)) (sym c.self.view_is)
    (bad_entry c.one_solution.ensures (basis_of init c.args.face.now.value c.args.scripts.now) text c.args.self.now is none
    ((c.in_ok-rest.ensures {u = tt}).none c.in-None.is)
    (subst (λ (x : ReadingValue). (x.present.last ≡ Some x.present.count → ⊥) → HasLayout x.present.document c.args.face.now.value) c.self.view_is
    (c.in_ok-can_complete-in-None.ensures {u = tt})))
