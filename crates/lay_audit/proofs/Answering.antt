-- What stands after a command is answered.
use Rattle.std.proofs.Common.{◌≡◌, ℕ, suc, ◌+◌, ◌<◌, ◌≤◌, List, [], length, fold, Some, refl, sym, ap, ◌∙◌, subst, arith, slice_index_or, slice_set, inl, inr}
use Rattle.std.proofs.lemmas.Bool.{cases_lt}
use Rattle.std.proofs.lemmas.Option.{same_Some}
use Rattle.lay_history.specs.Edits.EditLists.{after_all}
use Rattle.lay_history.specs.declared.edits.command.Cmd.{Cmd}
use Rattle.lay_history.specs.declared.edits.command.Cmd.TheVariants as command
use Rattle.lay_history.specs.declared.edits.command.Reply.{Reply}
use Rattle.lay_history.specs.declared.edits.command.Reply.TheVariants.{Accepted, Refused, Shown, NoMemory}
use Rattle.lay_history.specs.declared.edits.history.Entry.{Entry}
use Rattle.lay_history.specs.declared.edits.history.Entry.TheVariants as entry
use Rattle.lay_history.specs.Histories.{list_in, last_or, shown_version, shown_by, version_in}
use Rattle.lay_audit.specs.declared.step.Step.{Step}
use Rattle.lay_audit.specs.declared.step.Step.TheVariants as step
use Rattle.lay_audit.specs.Presents.{Accepts, AllAnswered, Answers, IsAnswer, IsStep, Moves, PresentValue, entry_of, next_command, shown_in}
use Rattle.lay_audit.proofs.Completing.{none_next, none_there}
use Rattle.lay_audit.proofs.NextEntries.{index_within, place_within}

pub no_version : (editor index : ℕ) (c : Cmd) (r : Reply) → version_in (entry_of editor index c r) ≡ []
no_version editor index (command.Edits edits) r = refl
no_version editor index command.Latest r = refl
no_version editor index command.Sync r = refl

no_edit : (editor index : ℕ) (c : Cmd) (r : Reply) → ((v : ℕ) → r ≡ Accepted v → ⊥) → list_in (entry_of editor index c r) ≡ []
no_edit editor index (command.Edits edits) (Accepted v) other = absurd (other v refl)
no_edit editor index (command.Edits edits) (Refused k f) other = refl
no_edit editor index (command.Edits edits) (Shown v) other = refl
no_edit editor index (command.Edits edits) NoMemory other = refl
no_edit editor index command.Latest r other = refl
no_edit editor index command.Sync r other = refl

-- the document stays
pub moves_quietly : (scripts : List (List Cmd)) (p q : PresentValue) (place : ℕ) (r : Reply) (e : Entry) → IsAnswer scripts p place r e → ((v : ℕ) → r ≡ Accepted v → ⊥)
    → q.document ≡ p.document → q.count ≡ p.count → q.last ≡ p.last → q.next ≡ slice_set p.next place (slice_index_or p.next place 0 + 1) → Moves p (step.Answer place r) e q
moves_quietly scripts p q place r e is other document count last next = record {
  document_is = document ∙ ap (fold after_all p.document) (sym none);
  count_is = let l : length (list_in e) ≡ 0 = ap (λ x. length x) none in omega (arith, count, l);
  last_is = last ∙ ap (last_or p.last) (sym (ap version_in is.entry_is ∙ no_version (suc place) (slice_index_or p.next place 0) is.command r));
  next_is = next;
}
  where
    none : list_in e ≡ []
    none = ap list_in is.entry_is ∙ no_edit (suc place) (slice_index_or p.next place 0) is.command r other

accepts_by : (p m : PresentValue) (editor index : ℕ) (c : Cmd) (v : ℕ) → Accepts p c m
    → (m.document ≡ fold after_all p.document (list_in (entry_of editor index c (Accepted v)))) × (m.count ≡ p.count + length (list_in (entry_of editor index c (Accepted v))))
    × (m.last ≡ p.last) × (m.next ≡ p.next)
accepts_by p m editor index (command.Edits edits) v accepts = (ap (λ x. x.document) accepts, ap (λ x. x.count) accepts, ap (λ x. x.last) accepts, ap (λ x. x.next) accepts)
accepts_by p m editor index command.Latest v accepts = absurd accepts
accepts_by p m editor index command.Sync v accepts = absurd accepts

-- an edit is accepted
pub moves_on : (scripts : List (List Cmd)) (p m q : PresentValue) (place v : ℕ) (c : Cmd) (e : Entry) → IsAnswer scripts p place (Accepted v) e
    → next_command scripts p place ≡ Some c → Accepts p c m
    → q.document ≡ m.document → q.count ≡ m.count → q.last ≡ m.last → q.next ≡ slice_set m.next place (slice_index_or m.next place 0 + 1)
    → Moves p (step.Answer place (Accepted v)) e q
moves_on scripts p m q place v c e is at accepts document count last next = record {
  document_is = document ∙ (parts.0 ∙ ap (λ x. fold after_all p.document (list_in x)) (sym entry_same));
  count_is = count ∙ (parts.1 ∙ ap (λ x. p.count + length (list_in x)) (sym entry_same));
  last_is = last ∙ (parts.2 ∙ ap (last_or p.last) (sym (ap version_in entry_same ∙ no_version (suc place) (slice_index_or p.next place 0) c (Accepted v))));
  next_is = next ∙ ap (λ x. slice_set x place (slice_index_or x place 0 + 1)) parts.3;
}
  where
    entry_same : e ≡ entry_of (suc place) (slice_index_or p.next place 0) c (Accepted v)
    entry_same = is.entry_is ∙ ap (λ x. entry_of (suc place) (slice_index_or p.next place 0) x (Accepted v)) (same_Some is.command c (sym is.command_is ∙ at))

    parts : (m.document ≡ fold after_all p.document (list_in (entry_of (suc place) (slice_index_or p.next place 0) c (Accepted v))))
        × (m.count ≡ p.count + length (list_in (entry_of (suc place) (slice_index_or p.next place 0) c (Accepted v)))) × (m.last ≡ p.last) × (m.next ≡ p.next)
    parts = accepts_by p m (suc place) (slice_index_or p.next place 0) c v accepts

pub answers_right : (scripts : List (List Cmd)) (p : PresentValue) (place : ℕ) (r : Reply) (c : Cmd) (e : Entry) → IsAnswer scripts p place r e
    → next_command scripts p place ≡ Some c → Answers p c r
answers_right scripts p place r c e is at = subst (λ x. Answers p x r) (same_Some is.command c (sym is.command_is ∙ at)) is.answers

pub answer_place : (scripts : List (List Cmd)) (p : PresentValue) (place : ℕ) (r : Reply) (e : Entry) → IsAnswer scripts p place r e → place < length scripts
answer_place scripts p place r e is = place_within scripts p place is.command is.command_is

pub answer_index : (scripts : List (List Cmd)) (p : PresentValue) (place : ℕ) (r : Reply) (e : Entry) → IsAnswer scripts p place r e
    → slice_index_or p.next place 0 < length (slice_index_or scripts place [])
answer_index scripts p place r e is = index_within scripts p place is.command is.command_is

-- at most one edit is accepted
pub one_more : (p q : PresentValue) (s : Step) (e : Entry) → Moves p s e q → q.count ≤ p.count + 1
one_more p q s e moves = let a = few e in let b = moves.count_is in omega (arith, a, b)
  where
    few : (x : Entry) → length (list_in x) ≤ 1
    few (entry.Edit editor index edits (Accepted v)) = omega arith
    few (entry.Edit editor index edits (Refused k f)) = omega arith
    few (entry.Edit editor index edits (Shown v)) = omega arith
    few (entry.Edit editor index edits NoMemory) = omega arith
    few (entry.Publish v) = omega arith
    few (entry.Latest editor index r) = omega arith
    few (entry.Sync editor index r) = omega arith

-- what an entry shows is what its step does

shown_of : (p : PresentValue) (editor index : ℕ) (c : Cmd) (r : Reply) → Answers p c r → shown_version (entry_of editor index c r) ≡ shown_by r
shown_of p editor index (command.Edits edits) (Accepted v) is = refl
shown_of p editor index (command.Edits edits) (Refused k f) is = refl
shown_of p editor index (command.Edits edits) (Shown v) is = absurd is
shown_of p editor index (command.Edits edits) NoMemory is = refl
shown_of p editor index command.Latest r is = refl
shown_of p editor index command.Sync r is = refl

pub step_shows : (scripts : List (List Cmd)) (p : PresentValue) (s : Step) (e : Entry) → IsStep scripts p s e → shown_version e ≡ shown_in s
step_shows scripts p (step.Answer place r) e is =
    ap shown_version is.entry_is ∙ shown_of p (suc place) (slice_index_or p.next place 0) is.command r is.answers
step_shows scripts p step.Publish e is = ap shown_version is.1

-- all commands are answered where those of each place are
pub all_of : (scripts : List (List Cmd)) (p : PresentValue) → length p.next ≡ length scripts
    → ((k : ℕ) → k < length scripts → slice_index_or p.next k 0 ≡ length (slice_index_or scripts k [])) → AllAnswered scripts p
all_of scripts p same each place = elim (cases_lt place (length scripts)) [
  | inl lt ↦ each place lt
  | inr le ↦ none_next p.next place (omega (arith, le, same)) ∙ sym (none_there scripts place le)
]
