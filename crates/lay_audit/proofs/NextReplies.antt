-- Which entry's line stands next.
use Rattle.std.proofs.Common.{◌≡◌, ℕ, suc, ◌+◌, ◌<◌, List, ◌++◌, length, Option, Some, None, Result, Ok, Err, IfOk, IfSome, refl, sym, ap, ◌∙◌, subst, arith, append_assoc, codes, inl, inr, slice_index_or}
use Rattle.std.proofs.lemmas.Bool.{cases_lt}
use Rattle.std.proofs.lemmas.List.{append_cancel_left}
use Rattle.std.proofs.lemmas.Option.{same_Some, none-some}
use Rattle.lay_history.specs.declared.edits.command.Cmd.{Cmd}
use Rattle.lay_history.specs.declared.edits.command.Cmd.TheVariants as command
use Rattle.lay_history.specs.declared.edits.command.Reply.{Reply}
use Rattle.lay_history.specs.declared.edits.history.Entry.{Entry}
use Rattle.lay_report.specs.Report.{entry_line, reply_text}
use Rattle.lay_audit.specs.declared.step.Step.{Step}
use Rattle.lay_audit.specs.declared.step.Step.TheVariants as step
use Rattle.lay_audit.specs.NextLines.{BeginsWith, RepliesNext, StandsNext, StandsNot, command_front, edit_count, reply_end}
use Rattle.lay_audit.proofs.NextEntries.{place_within}
use Rattle.lay_audit.specs.Presents.{Answers, IsAnswer, PresentValue, entry_of, next_command}

-- the line of a command is its front and its end
pub line_is : (editor index : ℕ) (c : Cmd) (r : Reply) → entry_line (entry_of editor index c r) ≡ command_front editor index c ++ reply_end (edit_count c) r
line_is editor index (command.Edits edits) r = append_assoc (command_front editor index (command.Edits edits)) (reply_text (length edits) r) (codes "\n")
line_is editor index command.Latest r = append_assoc (command_front editor index command.Latest) (reply_text 0 r) (codes "\n")
line_is editor index command.Sync r = append_assoc (command_front editor index command.Sync) (reply_text 0 r) (codes "\n")

-- a right reply that is said behind the front makes the line of an entry
pub stands_so : (scripts : List (List Cmd)) (p : PresentValue) (place : ℕ) (c : Cmd) (rest said : List ℕ) (r : Reply) → next_command scripts p place ≡ Some c
    → rest ≡ command_front (suc place) (slice_index_or p.next place 0) c ++ said → RepliesNext p c said r → StandsNext scripts p rest (step.Answer place r)
stands_so scripts p place c rest said r at parts is = record {
  entry = entry_of (suc place) (slice_index_or p.next place 0) c r;
  is = record { command = c; command_is = at; answers = is.right; entry_is = refl };
  begins = record {
    more = is.begins.more;
    text_is = parts ∙ (ap (λ x. command_front (suc place) (slice_index_or p.next place 0) c ++ x) is.begins.text_is
        ∙ (sym (append_assoc (command_front (suc place) (slice_index_or p.next place 0) c) (reply_end (edit_count c) r) is.begins.more)
        ∙ ap (λ x. x ++ is.begins.more) (sym (line_is (suc place) (slice_index_or p.next place 0) c r))));
  };
}

-- and a line that stands there has its front and such a reply
pub record HasSaid (p : PresentValue) (place : ℕ) (c : Cmd) (rest : List ℕ) (r : Reply) : Type 0 where
  pub right : Answers p c r
  pub more : List ℕ
  pub rest_is : rest ≡ command_front (suc place) (slice_index_or p.next place 0) c ++ (reply_end (edit_count c) r ++ more)

pub has_said : (scripts : List (List Cmd)) (p : PresentValue) (place : ℕ) (c : Cmd) (rest : List ℕ) (r : Reply) (e : Entry) → next_command scripts p place ≡ Some c
    → IsAnswer scripts p place r e → BeginsWith rest (entry_line e) → HasSaid p place c rest r
has_said scripts p place c rest r e at is begins = record {
  right = subst (λ x. Answers p x r) same is.answers;
  more = begins.more;
  rest_is = begins.text_is ∙ (ap (λ x. entry_line x ++ begins.more) (is.entry_is ∙ ap (λ x. entry_of (suc place) (slice_index_or p.next place 0) x r) same)
      ∙ (ap (λ x. x ++ begins.more) (line_is (suc place) (slice_index_or p.next place 0) c r)
      ∙ append_assoc (command_front (suc place) (slice_index_or p.next place 0) c) (reply_end (edit_count c) r) begins.more));
}
  where
    same : is.command ≡ c
    same = same_Some is.command c (sym is.command_is ∙ at)

pub no_command : (scripts : List (List Cmd)) (p : PresentValue) (place : ℕ) (rest : List ℕ) (r : Reply) → next_command scripts p place ≡ None
    → StandsNot scripts p rest (step.Answer place r)
no_command scripts p place rest r none e is begins = none-some is.command (sym none ∙ is.command_is)

pub no_front : (scripts : List (List Cmd)) (p : PresentValue) (place : ℕ) (c : Cmd) (rest : List ℕ) (r : Reply) → next_command scripts p place ≡ Some c
    → (BeginsWith rest (command_front (suc place) (slice_index_or p.next place 0) c) → ⊥) → StandsNot scripts p rest (step.Answer place r)
no_front scripts p place c rest r at other e is begins =
    let said = has_said scripts p place c rest r e at is begins in other (record { more = reply_end (edit_count c) r ++ said.more; text_is = said.rest_is })

pub no_reply : (scripts : List (List Cmd)) (p : PresentValue) (place : ℕ) (c : Cmd) (rest said : List ℕ) (r : Reply) → next_command scripts p place ≡ Some c
    → rest ≡ command_front (suc place) (slice_index_or p.next place 0) c ++ said → (RepliesNext p c said r → ⊥) → StandsNot scripts p rest (step.Answer place r)
no_reply scripts p place c rest said r at parts other e is begins =
    let has = has_said scripts p place c rest r e at is begins in
    other (record {
      right = has.right;
      begins = record { more = has.more; text_is = append_cancel_left (command_front (suc place) (slice_index_or p.next place 0) c) said (reply_end (edit_count c) r ++ has.more) (sym parts ∙ has.rest_is) };
    })

-- of results

pub if_found : {E : Type 0} (P Q : Reply → Type 0) (r : Result (Option Reply) E) → IfOk r (λ o. IfSome o P) → ((x : Reply) → P x → Q x) → IfOk r (λ o. IfSome o Q)
if_found P Q (Ok None) is step = tt
if_found P Q (Ok (Some x)) is step = step x is
if_found P Q (Err e) is step = tt

pub if_none : {E : Type 0} (P Q : Type 0) (r : Result (Option Reply) E) → IfOk r (λ o. o ≡ None → P) → (P → Q) → IfOk r (λ o. o ≡ None → Q)
if_none P Q (Ok o) is step = λ e. step (is e)
if_none P Q (Err e) is step = tt

-- no line of a step stands next
pub no_step : (scripts : List (List Cmd)) (p : PresentValue) (rest : List ℕ) → (StandsNext scripts p rest step.Publish → ⊥)
    → ((k : ℕ) → k < length scripts → (r : Reply) → StandsNot scripts p rest (step.Answer k r)) → (s : Step) → StandsNot scripts p rest s
no_step scripts p rest no_publication none step.Publish e is begins = no_publication (record { entry = e; is = is; begins = begins })
no_step scripts p rest no_publication none (step.Answer place r) e is begins =
    none place (place_within scripts p place is.command is.command_is) r e is begins

pub less_of : (k n : ℕ) → k < n + 1 → (k ≡ n → ⊥) → k < n
less_of k n lt other = elim (cases_lt k n) [ inl low ↦ low | inr high ↦ absurd (other (omega (arith, lt, high))) ]
