-- The entries that may come next are those of steps.
use Rattle.std.proofs.Common.{◌≡◌, ℕ, ◌+◌, ◌<◌, ◌≤◌, zero, suc, List, [], ◌∷◌, ◌++◌, length, take, fold, Option, Some, None, refl, sym, ap, ◌∙◌, subst, arith, slice_get, slice_index_or, slice_set, All, inl, inr}
use Rattle.std.proofs.lemmas.Bool.{cases_eq, cases_lt}
use Rattle.std.proofs.lemmas.List.{get_or-set_other, get_or-set_same, length-set, take-append-le}
use Rattle.std.proofs.lemmas.Option.{none-some, slice_get_within}
use Rattle.lay_doc.specs.Document.{Document}
use Rattle.lay_history.specs.Edits.EditLists.{after_all}
use Rattle.lay_history.specs.declared.edits.command.Cmd.{Cmd}
use Rattle.lay_history.specs.declared.edits.command.Cmd.TheVariants as command
use Rattle.lay_history.specs.declared.edits.command.Reply.{Reply}
use Rattle.lay_history.specs.declared.edits.history.Entry.{Entry}
use Rattle.lay_history.specs.declared.edits.history.Entry.TheVariants.{Edit, Publish, Latest, Sync}
use Rattle.lay_history.specs.Calls.{AnswersScripts, call_in, calls, calls_of, script_calls, script_of}
use Rattle.lay_history.specs.Histories.{accepted, list_in, last_or, last_published, published, version_in}
use Rattle.lay_history.specs.Legal.{AnswersEdits, AnswersLatest, AnswersSync, IsLegal, MayFollow, doc_after}
use Rattle.lay_audit.proofs.Cited.{accepted_more, all_below, doc_after_more, last_of_all, legal_more, published_more, take_whole}
use Rattle.lay_audit.specs.declared.step.Step.{Step}
use Rattle.lay_audit.specs.declared.step.Step.TheVariants as step
use Rattle.lay_audit.specs.LegalReports.{Basis}
use Rattle.lay_audit.specs.Presents.{Answers, IsPresent, IsStep, Moves, PresentValue, answered_of, entry_of, next_after, next_command}
use Rattle.lay_audit.proofs.Fronts.{fronts_more, fronts_same, next_call}

middle : {X : Type 0} (xs : List X) (x : X) (ys : List X) → slice_get (xs ++ x ∷ ys) (length xs) ≡ Some x
middle [] x ys = refl
middle (y ∷ xs) x ys = middle xs x ys

front : (h rest : List Entry) → take (length h) (h ++ rest) ≡ h
front h rest = take-append-le (length h) h rest (omega arith) ∙ take_whole h

pub follows_in : (init : Document) (h rest : List Entry) (e : Entry) → IsLegal init (h ++ e ∷ rest) → MayFollow init h e
follows_in init h rest e legal = subst (λ x. MayFollow init x e) (front h (e ∷ rest)) (legal (length h) e (middle h e rest))

-- the step of an entry
pub record HasStep (scripts : List (List Cmd)) (p : PresentValue) (e : Entry) : Type 0 where
  pub which : Step
  pub is : IsStep scripts p which e

answer_is : (basis : Basis) (h rest : List Entry) (p : PresentValue) (editor index : ℕ) (c : Cmd) (reply : Reply) → IsPresent basis h p
    → AnswersScripts (h ++ entry_of editor index c reply ∷ rest) basis.scripts
    → call_in (entry_of editor index c reply) ≡ record { editor = editor; index = index; command = c } ∷ []
    → Answers p c reply → HasStep basis.scripts p (entry_of editor index c reply)
answer_is basis h rest p zero index c reply present answers is right =
    absurd (none-some c (next_call basis.scripts h rest (entry_of 0 index c reply) (record { editor = 0; index = index; command = c }) 0 answers is (present.answered 0) (omega arith)).command_is)
answer_is basis h rest p (suc place) index c reply present answers is right =
    let next = next_call basis.scripts h rest (entry_of (suc place) index c reply) (record { editor = suc place; index = index; command = c }) (slice_index_or p.next place 0)
    answers is (present.answered (suc place)) (present.within place) in
    record {
      which = step.Answer place reply;
      is = record { command = c; command_is = next.command_is; answers = right; entry_is = ap (λ n. entry_of (suc place) n c reply) next.index_is };
    }

pub next_is_step : (basis : Basis) (h rest : List Entry) (e : Entry) (p : PresentValue) → IsPresent basis h p → IsLegal basis.init (h ++ e ∷ rest)
    → AnswersScripts (h ++ e ∷ rest) basis.scripts → HasStep basis.scripts p e
next_is_step basis h rest (Edit editor index edits reply) p present legal answers =
    answer_is basis h rest p editor index (command.Edits edits) reply present answers refl
    (subst (λ n. AnswersEdits p.document n edits reply) (sym present.count_is)
    (subst (λ d. AnswersEdits d (accepted h) edits reply) (sym present.document_is) (follows_in basis.init h rest (Edit editor index edits reply) legal)))
next_is_step basis h rest (Publish v) p present legal answers =
    let may = follows_in basis.init h rest (Publish v) legal in
    record {
      which = step.Publish;
      is = (
        λ last. (let less = last_of_all (λ w. w < v) (published h) p.count may.1 (sym present.last_is ∙ last) in
            let a = present.count_is in let b = may.0 in omega (arith, less, a, b)),
        ap Publish (may.0 ∙ sym present.count_is),
      );
    }
next_is_step basis h rest (Latest editor index reply) p present legal answers =
    answer_is basis h rest p editor index command.Latest reply present answers refl
    (subst (λ o. AnswersLatest o reply) (sym present.last_is) (follows_in basis.init h rest (Latest editor index reply) legal))
next_is_step basis h rest (Sync editor index reply) p present legal answers =
    answer_is basis h rest p editor index command.Sync reply present answers refl
    (subst (λ n. AnswersSync p.last n reply) (sym present.count_is)
    (subst (λ o. AnswersSync o (accepted h) reply) (sym present.last_is) (follows_in basis.init h rest (Sync editor index reply) legal)))

-- and the entry of a step may follow

may_answer : (basis : Basis) (h : List Entry) (p : PresentValue) (editor index : ℕ) (c : Cmd) (reply : Reply) → IsPresent basis h p → Answers p c reply
    → MayFollow basis.init h (entry_of editor index c reply)
may_answer basis h p editor index (command.Edits edits) reply present right =
    subst (λ n. AnswersEdits (doc_after basis.init h) n edits reply) present.count_is (subst (λ d. AnswersEdits d p.count edits reply) present.document_is right)
may_answer basis h p editor index command.Latest reply present right = subst (λ o. AnswersLatest o reply) present.last_is right
may_answer basis h p editor index command.Sync reply present right =
    subst (λ n. AnswersSync (last_published h) n reply) present.count_is (subst (λ o. AnswersSync o p.count reply) present.last_is right)

pub step_follows : (basis : Basis) (h : List Entry) (p : PresentValue) (s : Step) (e : Entry) → IsPresent basis h p → IsStep basis.scripts p s e → MayFollow basis.init h e
step_follows basis h p (step.Answer place reply) e present is =
    subst (MayFollow basis.init h) (sym is.entry_is) (may_answer basis h p (suc place) (slice_index_or p.next place 0) is.command reply present is.answers)
step_follows basis h p step.Publish e present is =
    subst (MayFollow basis.init h) (sym is.1) (
      present.count_is,
      subst (λ n. All (λ w. w < n) (published h)) (sym present.count_is)
          (all_below basis.init h present.legal (λ last. is.0 (present.last_is ∙ (last ∙ ap (λ n. Some n) (sym present.count_is))))).1,
    )

-- what stands after it

last_append : (o : Option ℕ) (xs ys : List ℕ) → last_or o (xs ++ ys) ≡ last_or (last_or o xs) ys
last_append o [] ys = refl
last_append o (x ∷ xs) ys = last_append (Some x) xs ys

call_of : (editor index : ℕ) (c : Cmd) (reply : Reply) → call_in (entry_of editor index c reply) ≡ record { editor = editor; index = index; command = c } ∷ []
call_of editor index (command.Edits edits) reply = refl
call_of editor index command.Latest reply = refl
call_of editor index command.Sync reply = refl

none_beyond : (scripts : List (List Cmd)) (place : ℕ) → length scripts ≤ place → slice_index_or scripts place [] ≡ []
none_beyond [] place le = refl
none_beyond (x ∷ xs) zero le = absurd (omega (arith, le))
none_beyond (x ∷ xs) (suc k) le = none_beyond xs k (omega (arith, le))

pub place_within : (scripts : List (List Cmd)) (p : PresentValue) (place : ℕ) (c : Cmd) → next_command scripts p place ≡ Some c → place < length scripts
place_within scripts p place c e = elim (cases_lt place (length scripts)) [
  | inl lt ↦ lt
  | inr le ↦ absurd (none-some c (sym (ap (λ s. slice_get s (slice_index_or p.next place 0)) (none_beyond scripts place le)) ∙ e))
]

pub index_within : (scripts : List (List Cmd)) (p : PresentValue) (place : ℕ) (c : Cmd) → next_command scripts p place ≡ Some c
    → slice_index_or p.next place 0 < length (slice_index_or scripts place [])
index_within scripts p place c e = slice_get_within (slice_index_or scripts place []) (slice_index_or p.next place 0) c e

within_more : (scripts : List (List Cmd)) (next : List ℕ) (place : ℕ) → place < length next
    → slice_index_or next place 0 < length (slice_index_or scripts place [])
    → ((k : ℕ) → slice_index_or next k 0 ≤ length (slice_index_or scripts k []))
    → (k : ℕ) → slice_index_or (slice_set next place (slice_index_or next place 0 + 1)) k 0 ≤ length (slice_index_or scripts k [])
within_more scripts next place lt less within k = elim (cases_eq place k) [
  | inl own ↦ subst (λ j. slice_index_or (slice_set next place (slice_index_or next place 0 + 1)) j 0 ≤ length (slice_index_or scripts j [])) own
      (let e = get_or-set_same next place (slice_index_or next place 0 + 1) 0 lt in omega (arith, e, less))
  | inr other ↦ (let e = get_or-set_other next place k (slice_index_or next place 0 + 1) 0 (λ x. other (sym x)) in let w = within k in omega (arith, e, w))
]

pub present_more : (basis : Basis) (h : List Entry) (p q : PresentValue) (s : Step) (e : Entry) → IsPresent basis h p → IsStep basis.scripts p s e
    → Moves p s e q → IsPresent basis (h ++ e ∷ []) q
present_more basis h p q s e present is moves = record {
  legal = legal_more basis.init h e present.legal (step_follows basis h p s e present is);
  document_is = moves.document_is ∙ (ap (λ d. fold after_all d (list_in e)) present.document_is ∙ sym (doc_after_more basis.init h e));
  count_is = let a = accepted_more h e in let b = moves.count_is in let c = present.count_is in omega (arith, a, b, c);
  last_is = moves.last_is ∙ (ap (λ o. last_or o (version_in e)) present.last_is ∙ (sym (last_append None (published h) (version_in e)) ∙ ap (last_or None) (sym (published_more h e))));
  answered = subst (λ n. (editor : ℕ) → calls_of editor (calls (h ++ e ∷ [])) ≡ script_calls editor 0 (take (answered_of n editor) (script_of basis.scripts editor))) (sym moves.next_is) (fronts s is);
  within = subst (λ n. (place : ℕ) → slice_index_or n place 0 ≤ length (slice_index_or basis.scripts place [])) (sym moves.next_is) (bounds s is);
  editors = ap length moves.next_is ∙ (lengths s ∙ present.editors);
}
  where
    fronts : (s : Step) → IsStep basis.scripts p s e → (editor : ℕ) → calls_of editor (calls (h ++ e ∷ [])) ≡ script_calls editor 0 (take (answered_of (next_after s p.next) editor) (script_of basis.scripts editor))
    fronts (step.Answer place reply) is =
        fronts_more basis.scripts h e is.command p.next place (let a = place_within basis.scripts p place is.command is.command_is in let b = present.editors in omega (arith, a, b))
        (present.within place) is.command_is (ap call_in is.entry_is ∙ call_of (suc place) (slice_index_or p.next place 0) is.command reply) present.answered
    fronts step.Publish is = fronts_same basis.scripts h e p.next (ap call_in is.1) present.answered

    bounds : (s : Step) → IsStep basis.scripts p s e → (place : ℕ) → slice_index_or (next_after s p.next) place 0 ≤ length (slice_index_or basis.scripts place [])
    bounds (step.Answer place reply) is =
        within_more basis.scripts p.next place (let a = place_within basis.scripts p place is.command is.command_is in let b = present.editors in omega (arith, a, b))
        (index_within basis.scripts p place is.command is.command_is) present.within
    bounds step.Publish is = present.within

    lengths : (s : Step) → length (next_after s p.next) ≡ length p.next
    lengths (step.Answer place reply) = length-set p.next place (slice_index_or p.next place 0 + 1)
    lengths step.Publish = refl
