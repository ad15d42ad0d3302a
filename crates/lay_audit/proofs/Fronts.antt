-- Fronts of scripts that a history answers.
use Rattle.std.proofs.Common.{◌≡◌, ℕ, ◌+◌, ◌<◌, ◌≤◌, zero, suc, List, [], ◌∷◌, ◌++◌, length, take, Option, Some, None, option_map, refl, sym, ap, ◌∙◌, subst, arith, append-nil, ne_eqb, slice_get, slice_index_or, slice_set, inl, inr, if◌then◌else◌}
use Rattle.std.proofs.lemmas.Bool.{cases_eq}
use Rattle.std.proofs.lemmas.List.{get_or-set_other, get_or-set_same, length-take-le, take_all}
use Rattle.std.proofs.lemmas.List.Concat.{flat_map-append}
use Rattle.std.proofs.lemmas.Option.{same_Some, none-some}
use Rattle.lay_history.specs.declared.edits.command.Cmd.{Cmd}
use Rattle.lay_history.specs.declared.edits.history.Entry.{Entry}
use Rattle.lay_history.specs.Calls.{AnswersScripts, Call, call_if_of, call_in, calls, calls_of, script_calls, script_of}
use Rattle.lay_audit.proofs.Cited.{calls_more, own_first, take_more}
use Rattle.lay_audit.specs.Presents.{answered_of}

-- a script's calls

abbrev pub call_at : ℕ → ℕ → Cmd → Call
call_at editor index c = record { editor = editor; index = index; command = c }

script_at : (editor from k : ℕ) (cs : List Cmd) → slice_get (script_calls editor from cs) k ≡ option_map (call_at editor (from + k)) (slice_get cs k)
script_at editor from k [] = refl
script_at editor from zero (c ∷ cs) = ap (λ n. Some (call_at editor n c)) (omega arith)
script_at editor from (suc k) (c ∷ cs) =
    script_at editor (from + 1) k cs ∙ ap (λ n. option_map (call_at editor n) (slice_get cs k)) (omega arith)

script_count : (editor from : ℕ) (cs : List Cmd) → length (script_calls editor from cs) ≡ length cs
script_count editor from [] = refl
script_count editor from (c ∷ cs) = ap suc (script_count editor (from + 1) cs)

script_more : (editor from : ℕ) (cs : List Cmd) (c : Cmd)
    → script_calls editor from (cs ++ c ∷ []) ≡ script_calls editor from cs ++ call_at editor (from + length cs) c ∷ []
script_more editor from [] c = ap (λ n. call_at editor n c ∷ []) (omega arith)
script_more editor from (x ∷ cs) c =
    ap (λ t. call_at editor from x ∷ t) (script_more editor (from + 1) cs c
    ∙ ap (λ n. script_calls editor (from + 1) cs ++ call_at editor n c ∷ []) (omega arith))

middle : {X : Type 0} (xs : List X) (x : X) (ys : List X) → slice_get (xs ++ x ∷ ys) (length xs) ≡ Some x
middle [] x ys = refl
middle (y ∷ xs) x ys = middle xs x ys

-- an editor's calls

pub own_more : (cs : List Call) (c : Call) → calls_of c.editor (cs ++ c ∷ []) ≡ calls_of c.editor cs ++ c ∷ []
own_more cs c =
    flat_map-append (call_if_of c.editor) cs (c ∷ []) ∙ ap (λ ds. calls_of c.editor cs ++ ds) (own_first c [])

pub other_more : (editor : ℕ) (cs : List Call) (c : Call) → (c.editor ≡ editor → ⊥) → calls_of editor (cs ++ c ∷ []) ≡ calls_of editor cs
other_more editor cs c other =
    flat_map-append (call_if_of editor) cs (c ∷ [])
    ∙ (ap (λ b. calls_of editor cs ++ ((if b then c ∷ [] else []) ++ [])) (ne_eqb c.editor editor other) ∙ append-nil (calls_of editor cs))

calls_split : (h rest : List Entry) (e : Entry) (c : Call) → call_in e ≡ c ∷ []
    → calls_of c.editor (calls (h ++ e ∷ rest)) ≡ calls_of c.editor (calls h) ++ c ∷ calls_of c.editor (calls rest)
calls_split h rest e c is =
    ap (calls_of c.editor) (flat_map-append call_in h (e ∷ rest) ∙ ap (λ x. calls h ++ (x ++ calls rest)) is)
    ∙ (flat_map-append (call_if_of c.editor) (calls h) (c ∷ calls rest) ∙ ap (λ x. calls_of c.editor (calls h) ++ x) (own_first c (calls rest)))

-- the next call of an editor is that of its next command
pub record IsNextCall (script : List Cmd) (n : ℕ) (c : Call) : Type 0 where
  pub index_is : c.index ≡ n
  pub command_is : slice_get script n ≡ Some c.command

named : (editor n : ℕ) (o : Option Cmd) (c : Call) → Some c ≡ option_map (call_at editor n) o → (c.index ≡ n) × (o ≡ Some c.command)
named editor n None c e = absurd (none-some c (sym e))
named editor n (Some d) c e =
    let same = same_Some c (call_at editor n d) e in (ap (λ x. x.index) same, ap (λ x. Some x.command) (sym same))

pub next_call : (scripts : List (List Cmd)) (h rest : List Entry) (e : Entry) (c : Call) (n : ℕ) → AnswersScripts (h ++ e ∷ rest) scripts
    → call_in e ≡ c ∷ [] → calls_of c.editor (calls h) ≡ script_calls c.editor 0 (take n (script_of scripts c.editor))
    → n ≤ length (script_of scripts c.editor) → IsNextCall (script_of scripts c.editor) n c
next_call scripts h rest e c n answers is front le =
    let parts = named c.editor (0 + n) (slice_get (script_of scripts c.editor) n) c (sym at ∙ script_at c.editor 0 n (script_of scripts c.editor)) in
    let none : 0 + n ≡ n = omega arith in
    record { index_is = parts.0 ∙ none; command_is = parts.1 }
  where
    whole : script_calls c.editor 0 (script_of scripts c.editor) ≡ calls_of c.editor (calls h) ++ c ∷ calls_of c.editor (calls rest)
    whole = sym (answers c.editor) ∙ calls_split h rest e c is

    count : length (calls_of c.editor (calls h)) ≡ n
    count = ap length front ∙ (script_count c.editor 0 (take n (script_of scripts c.editor)) ∙ length-take-le n (script_of scripts c.editor) le)

    at : slice_get (script_calls c.editor 0 (script_of scripts c.editor)) n ≡ Some c
    at = ap (λ cs. slice_get cs n) whole
        ∙ (ap (λ k. slice_get (calls_of c.editor (calls h) ++ c ∷ calls_of c.editor (calls rest)) k) (sym count) ∙ middle (calls_of c.editor (calls h)) c (calls_of c.editor (calls rest)))

-- fronts that are answered
abbrev pub AnswersFronts : List (List Cmd) → List Entry → List ℕ → Type 0
AnswersFronts scripts h next = (editor : ℕ) → calls_of editor (calls h) ≡ script_calls editor 0 (take (answered_of next editor) (script_of scripts editor))

pub fronts_same : (scripts : List (List Cmd)) (h : List Entry) (e : Entry) (next : List ℕ) → call_in e ≡ [] → AnswersFronts scripts h next → AnswersFronts scripts (h ++ e ∷ []) next
fronts_same scripts h e next none fronts editor =
    ap (calls_of editor) (calls_more h e ∙ (ap (λ x. calls h ++ x) none ∙ append-nil (calls h))) ∙ fronts editor

pub fronts_more : (scripts : List (List Cmd)) (h : List Entry) (e : Entry) (c : Cmd) (next : List ℕ) (place : ℕ) → place < length next
    → slice_index_or next place 0 ≤ length (slice_index_or scripts place [])
    → slice_get (slice_index_or scripts place []) (slice_index_or next place 0) ≡ Some c
    → call_in e ≡ call_at (suc place) (slice_index_or next place 0) c ∷ []
    → AnswersFronts scripts h next → AnswersFronts scripts (h ++ e ∷ []) (slice_set next place (slice_index_or next place 0 + 1))
fronts_more scripts h e c next place lt le at is fronts editor = elim (cases_eq (suc place) editor) [
  | inl own ↦ subst (λ ed. calls_of ed (calls (h ++ e ∷ [])) ≡ script_calls ed 0 (take (answered_of (slice_set next place (slice_index_or next place 0 + 1)) ed) (script_of scripts ed))) own
      (ap (calls_of (suc place)) grown ∙ (own_more (calls h) (call_at (suc place) (slice_index_or next place 0) c) ∙ (ap (λ cs. cs ++ call_at (suc place) (slice_index_or next place 0) c ∷ []) (fronts (suc place)) ∙ sym longer)))
  | inr other ↦ ap (calls_of editor) grown ∙ (other_more editor (calls h) (call_at (suc place) (slice_index_or next place 0) c) other
      ∙ (fronts editor ∙ ap (λ n. script_calls editor 0 (take n (script_of scripts editor))) (sym (kept editor other))))
]
  where
    grown : calls (h ++ e ∷ []) ≡ calls h ++ call_at (suc place) (slice_index_or next place 0) c ∷ []
    grown = calls_more h e ∙ ap (λ x. calls h ++ x) is

    now : slice_index_or (slice_set next place (slice_index_or next place 0 + 1)) place 0 ≡ slice_index_or next place 0 + 1
    now = get_or-set_same next place (slice_index_or next place 0 + 1) 0 lt

    count : length (take (slice_index_or next place 0) (slice_index_or scripts place [])) ≡ slice_index_or next place 0
    count = length-take-le (slice_index_or next place 0) (slice_index_or scripts place []) le

    longer : script_calls (suc place) 0 (take (slice_index_or (slice_set next place (slice_index_or next place 0 + 1)) place 0) (slice_index_or scripts place []))
        ≡ script_calls (suc place) 0 (take (slice_index_or next place 0) (slice_index_or scripts place [])) ++ call_at (suc place) (slice_index_or next place 0) c ∷ []
    longer =
        let one : slice_index_or next place 0 + 1 ≡ suc (slice_index_or next place 0) = omega arith in
        let at_count : 0 + length (take (slice_index_or next place 0) (slice_index_or scripts place [])) ≡ slice_index_or next place 0 = (let x = count in omega (arith, x)) in
        ap (λ k. script_calls (suc place) 0 (take k (slice_index_or scripts place []))) (now ∙ one)
        ∙ (ap (script_calls (suc place) 0) (take_more (slice_index_or scripts place []) (slice_index_or next place 0) c at)
        ∙ (script_more (suc place) 0 (take (slice_index_or next place 0) (slice_index_or scripts place [])) c
        ∙ ap (λ k. script_calls (suc place) 0 (take (slice_index_or next place 0) (slice_index_or scripts place [])) ++ call_at (suc place) k c ∷ []) at_count))

    kept : (ed : ℕ) → (suc place ≡ ed → ⊥) → answered_of (slice_set next place (slice_index_or next place 0 + 1)) ed ≡ answered_of next ed
    kept zero other = refl
    kept (suc k) other = get_or-set_other next place k (slice_index_or next place 0 + 1) 0 (λ e. other (ap suc (sym e)))

-- all commands are answered
pub fronts_whole : (scripts : List (List Cmd)) (h : List Entry) (next : List ℕ) → AnswersFronts scripts h next
    → ((place : ℕ) → slice_index_or next place 0 ≡ length (slice_index_or scripts place [])) → AnswersScripts h scripts
fronts_whole scripts h next fronts all zero = fronts zero
fronts_whole scripts h next fronts all (suc place) =
    fronts (suc place) ∙ ap (script_calls (suc place) 0) (take_all (slice_index_or next place 0) (slice_index_or scripts place []) (let e = all place in omega (arith, e)))

pub whole_fronts : (scripts : List (List Cmd)) (h : List Entry) (next : List ℕ) → AnswersFronts scripts h next
    → ((place : ℕ) → slice_index_or next place 0 ≤ length (slice_index_or scripts place [])) → AnswersScripts h scripts
    → (place : ℕ) → slice_index_or next place 0 ≡ length (slice_index_or scripts place [])
whole_fronts scripts h next fronts within answers place =
    sym (length-take-le (slice_index_or next place 0) (slice_index_or scripts place []) (within place))
    ∙ (sym (script_count (suc place) 0 (take (slice_index_or next place 0) (slice_index_or scripts place [])))
    ∙ (ap length (sym (fronts (suc place)) ∙ answers (suc place)) ∙ script_count (suc place) 0 (slice_index_or scripts place [])))
