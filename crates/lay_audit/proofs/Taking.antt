-- A step is taken while a text is read.
use Rattle.std.proofs.Common.{◌≡◌, ℕ, ◌+◌, ◌<◌, List, [], length, Option, Some, None, IfSome, is_some, true, Result, Ok, Err, IfOk, refl, sym, subst, arith}
use Rattle.lay_doc.specs.Document.{Document}
use Rattle.lay_history.specs.declared.edits.command.Cmd.{Cmd}
use Rattle.lay_history.specs.declared.edits.command.Reply.{Reply}
use Rattle.lay_history.specs.declared.edits.history.Entry.{Entry}
use Rattle.lay_face.specs.FaceValue.{FaceValue}
use Rattle.lay_context.specs.Laws.{OneSolution}
use Rattle.lay_audit.specs.declared.next.Next.{Next}
use Rattle.lay_audit.specs.declared.step.Step.{Step}
use Rattle.lay_audit.specs.declared.verdict.Verdict.{Verdict}
use Rattle.lay_audit.specs.LegalReports.{Basis}
use Rattle.lay_audit.specs.declared.step.Step.TheVariants as step
use Rattle.lay_audit.specs.Lines.{behind_line}
use Rattle.lay_audit.specs.NextLines.{StandsNext}
use Rattle.lay_audit.specs.Presents.{IsPresent, IsPresentWithin, IsStep, Moves, PresentValue, shown_in}
use Rattle.lay_audit.specs.Readings.{IsLayoutOf, IsPlayed, IsRead, IsSteady, IsTreeOf, LastTreeValue, ReadingValue, basis_of, pending_of}
use Rattle.lay_audit.proofs.Judging.{reads_answer, reads_publication}
use Rattle.lay_audit.proofs.Rooms.{passes_line, steady_more}

-- the line of a step's entry is passed
pub record Passes (scripts : List (List Cmd)) (r s : ReadingValue) (which : Step) : Type 0 where
  pub next : StandsNext scripts r.present r.rest which
  pub moves : (e : Entry) → IsStep scripts r.present which e → Moves r.present which e s.present
  pub rest : s.rest ≡ behind_line r.rest
  pub lines : s.lines ≡ r.lines + 1

pub stays_steady : (scripts : List (List Cmd)) (r s : ReadingValue) (which : Step) → Passes scripts r s which → IsSteady scripts r → IsSteady scripts s
stays_steady scripts r s which p steady = steady_more scripts r s which p.next.entry steady p.next.begins (p.moves p.next.entry p.next.is) p.rest p.lines

pub gets_shorter : (scripts : List (List Cmd)) (r s : ReadingValue) (which : Step) → Passes scripts r s which → length s.rest < length r.rest
gets_shorter scripts r s which p = passes_line p.next.entry r.rest s.rest p.next.begins p.rest

pub takes_answer : OneSolution → (scripts : List (List Cmd)) (r s : ReadingValue) (place : ℕ) (reply : Reply) → IsPresentWithin scripts r.present
    → Passes scripts r s (step.Answer place reply) → s.tree ≡ r.tree → (init : Document) (face : FaceValue) (text : List ℕ)
    → IsRead (basis_of init face scripts) text r [] → IsRead (basis_of init face scripts) text s (pending_of (shown_in (step.Answer place reply)) s.tree.text)
takes_answer one scripts r s place reply few p tree init face text is =
    reads_answer one (basis_of init face scripts) text r s place reply p.next.entry few p.next.is (p.moves p.next.entry p.next.is) tree p.next.begins p.rest p.lines is

pub takes_publication : OneSolution → (scripts : List (List Cmd)) (r s : ReadingValue) → IsPresentWithin scripts r.present
    → Passes scripts r s step.Publish → (init : Document) (face : FaceValue) (text : List ℕ) → IsLayoutOf r.present.document face s.tree
    → IsRead (basis_of init face scripts) text r [] → IsRead (basis_of init face scripts) text s (pending_of (shown_in step.Publish) s.tree.text)
takes_publication one scripts r s few p init face text layout is =
    reads_publication one (basis_of init face scripts) text r s p.next.entry few p.next.is (p.moves p.next.entry p.next.is) layout p.next.begins p.rest p.lines is

-- the same of equal values
pub moves_as : (scripts : List (List Cmd)) (p p' q q' : PresentValue) (which : Step) → p ≡ p' → q' ≡ q → ((e : Entry) → IsStep scripts p which e → Moves p which e q)
    → (e : Entry) → IsStep scripts p' which e → Moves p' which e q'
moves_as scripts p p' q q' which same_p same_q f =
    subst (λ x. (e : Entry) → IsStep scripts x which e → Moves x which e q') same_p
    (subst (λ y. (e : Entry) → IsStep scripts p which e → Moves p which e y) (sym same_q) f)

-- before the first entry
pub first_played : (basis : Basis) (p : PresentValue) (t : LastTreeValue) → IsPresent basis [] p → IsPlayed basis [] p t
first_played basis p t present = record {
  present = present;
  have_trees = record { trees = []; has_trees = refl; solved = λ k d lt. absurd (omega (arith, lt)) };
  last_tree = subst (λ o. IfSome o (IsTreeOf basis [] t)) (sym present.last_is) tt;
}

pub pending_shown : (o : Option ℕ) (text : List ℕ) → is_some o ≡ true → pending_of o text ≡ text
pending_shown None text e = absurd cc
pending_shown (Some v) text e = refl

-- of results
pub if_next : {E : Type 0} (r : Result Next E) (P Q : Next → Type 0) → IfOk r P → ((n : Next) → P n → Q n) → IfOk r Q
if_next (Ok n) P Q is step = step n is
if_next (Err e) P Q is step = tt

pub if_verdict : {E : Type 0} (r : Result Verdict E) (P Q : Verdict → Type 0) → IfOk r P → ((v : Verdict) → P v → Q v) → IfOk r Q
if_verdict (Ok v) P Q is step = step v is
if_verdict (Err e) P Q is step = tt
