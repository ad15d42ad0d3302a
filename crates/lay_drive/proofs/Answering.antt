-- The calls of an editor in a history are those of its entries.
use Rattle.std.proofs.Common.{◌≡◌, ℕ, zero, suc, ◌+◌, ◌<◌, ◌≤◌, Bool, true, false, if◌then◌else◌, ◌==◌, List, [], ◌∷◌, ◌++◌, length, slice_get, slice_index_or, Option, Some, None, refl, sym, ap, ◌∙◌, subst, arith, rules, inl, inr}
use Rattle.lay_history.specs.declared.edits.command.Cmd.TheVariants as command
use Rattle.lay_history.specs.declared.edits.history.Entry.{Entry}
use Rattle.lay_history.specs.declared.edits.history.Entry.TheVariants.{Edit, Publish, Latest, Sync}
use Rattle.lay_history.specs.Calls.{Call, calls, calls_of, script_calls}
use Rattle.lay_board.specs.Entries.{by_editor}
use Rattle.lay_board.specs.Passes.{IsKnownIn, PassOf}
use Rattle.lay_drive.specs.Laws.{PassesAnswerScripts}

-- the same choice of an entry and of its call
choice : (b : Bool) (n : ℕ) (c : Call) (e : Entry) (xs : List Entry) → calls (e ∷ []) ≡ c ∷ [] → calls_of n (calls xs) ≡ calls (by_editor n xs)
    → (if b then c ∷ [] else []) ++ calls_of n (calls xs) ≡ calls ((if b then e ∷ [] else []) ++ by_editor n xs)
choice true n c (Edit editor index edits reply) xs is h = grind (rules, is, h)
choice true n c (Publish version) xs is h = absurd (grind (rules, is))
choice true n c (Latest editor index reply) xs is h = grind (rules, is, h)
choice true n c (Sync editor index reply) xs is h = grind (rules, is, h)
choice false n c e xs is h = h

pub same_calls : (n : ℕ) (history : List Entry) → calls_of n (calls history) ≡ calls (by_editor n history)
same_calls n [] = refl
same_calls n (Publish version ∷ xs) = same_calls n xs
same_calls n (Edit editor index edits reply ∷ xs) =
    choice (editor == n) n (record { editor = editor; index = index; command = command.Edits edits }) (Edit editor index edits reply) xs refl (same_calls n xs)
same_calls n (Latest editor index reply ∷ xs) =
    choice (editor == n) n (record { editor = editor; index = index; command = command.Latest }) (Latest editor index reply) xs refl (same_calls n xs)
same_calls n (Sync editor index reply ∷ xs) =
    choice (editor == n) n (record { editor = editor; index = index; command = command.Sync }) (Sync editor index reply) xs refl (same_calls n xs)

pub within : {X : Type 0} (xs : List X) (k : ℕ) (x : X) → slice_get xs k ≡ Some x → (k < length xs) × ((d : X) → slice_index_or xs k d ≡ x)
within [] k x h = absurd (grind (rules, h))
within (y ∷ ys) zero x h = (omega arith, λ d. grind (rules, h))
within (y ∷ ys) (suc k) x h = let w = within ys k x h in (let l = w.0 in omega (arith, l), w.1)

past : {X : Type 0} (xs : List X) (k : ℕ) → slice_get xs k ≡ None → length xs ≤ k
past [] k h = omega arith
past (y ∷ ys) zero h = absurd (grind (rules, h))
past (y ∷ ys) (suc k) h = let l = past ys k h in omega (arith, l)

nothing_past : {X : Type 0} (xs : List X) (k : ℕ) (d : X) → length xs ≤ k → slice_index_or xs k d ≡ d
nothing_past [] k d h = refl
nothing_past (y ∷ ys) zero d h = absurd (omega (arith, h))
nothing_past (y ∷ ys) (suc k) d h = nothing_past ys k d (omega (arith, h))

pub answer : PassesAnswerScripts
answer scripts passes history same run known others zero = same_calls 0 history ∙ ap calls (others 0 (inl refl))
answer scripts passes history same run known others (suc k) = by (slice_get passes k) refl
  where
    by : (o : Option PassOf) → slice_get passes k ≡ o → calls_of (suc k) (calls history) ≡ script_calls (suc k) 0 (slice_index_or scripts k [])
    by (Some p) at =
        let w = within passes k p at in
        let r = run k p at in
        let number : p.knows.number ≡ suc k = let e = r.number in omega (arith, e) in
        let own = subst (IsKnownIn history) (w.1 p) (known k p w.0) in
        let place : k + 1 ≡ suc k = omega arith in
        same_calls (suc k) history ∙ ap (λ n. calls (by_editor n history)) (sym number) ∙ ap calls (sym own.own) ∙ r.own ∙ ap (λ n. script_calls n 0 (slice_index_or scripts k [])) place
    by None at =
        let far = past passes k at in
        let none = others (suc k) (inr (omega (arith, far, same))) in
        same_calls (suc k) history ∙ ap calls none ∙ ap (script_calls (suc k) 0) (sym (nothing_past scripts k [] (omega (arith, far, same))))
