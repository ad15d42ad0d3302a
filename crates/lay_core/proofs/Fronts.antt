-- The fronts of scripts, and the calls of a front.
use Rattle.std.proofs.Common.{◌≡◌, ℕ, ◌+◌, zero, suc, List, [], ◌∷◌, ◌++◌, length, take, drop, refl, sym, ap, ◌∙◌, arith, append-nil, ne_eqb, if◌then◌else◌}
use Rattle.std.proofs.lemmas.List.Concat.{flat_map-append}
use Rattle.lay_history.specs.declared.edits.command.Cmd.{Cmd}
use Rattle.lay_history.specs.Calls.{Call, call_if_of, calls_of, script_calls}
use Rattle.lay_core.proofs.Cited.{heads_same, own_first, tails_same}

not_empty : {X : Type 0} (x : X) (xs : List X) → [] ≡ x ∷ xs → ⊥
not_empty x xs e = let n = ap length e in omega (arith, n)

-- so many commands of a script are answered, and the next one is this
pub record GoesOn {X : Type 0} (r : ℕ) (xs : List X) (c : X) (cs : List X) : Type 0 where
  pub front : take (r + 1) xs ≡ take r xs ++ c ∷ []
  pub rest : drop (r + 1) xs ≡ cs
  pub count : length (take r xs) ≡ r

goes_on : {X : Type 0} (r : ℕ) (xs : List X) (c : X) (cs : List X) → drop r xs ≡ c ∷ cs
    → (take (suc r) xs ≡ take r xs ++ c ∷ []) × (drop (suc r) xs ≡ cs) × (length (take r xs) ≡ r)
goes_on zero [] c cs e = absurd (not_empty c cs e)
goes_on zero (x ∷ xs) c cs e = (ap (λ y. y ∷ []) (heads_same x c xs cs e), tails_same x c xs cs e, refl)
goes_on (suc r) [] c cs e = absurd (not_empty c cs e)
goes_on (suc r) (x ∷ xs) c cs e =
    let h = goes_on r xs c cs e in (ap (λ ys. x ∷ ys) h.0, h.1, ap suc h.2)

pub next_of : {X : Type 0} (r : ℕ) (xs : List X) (c : X) (cs : List X) → drop r xs ≡ c ∷ cs → GoesOn r xs c cs
next_of r xs c cs e =
    let h = goes_on r xs c cs e in let one : r + 1 ≡ suc r = omega arith in
    record { front = ap (λ n. take n xs) one ∙ h.0; rest = ap (λ n. drop n xs) one ∙ h.1; count = h.2 }

ends : {X : Type 0} (r : ℕ) (xs : List X) → drop r xs ≡ [] → (take (suc r) xs ≡ take r xs) × (drop (suc r) xs ≡ [])
ends zero [] e = (refl, refl)
ends zero (x ∷ xs) e = absurd (not_empty x xs (sym e))
ends (suc r) [] e = (refl, refl)
ends (suc r) (x ∷ xs) e = let h = ends r xs e in (ap (λ ys. x ∷ ys) h.0, h.1)

-- all commands of a script are answered
pub record IsOver {X : Type 0} (r : ℕ) (xs : List X) : Type 0 where
  pub front : take (r + 1) xs ≡ take r xs
  pub rest : drop (r + 1) xs ≡ []

pub over_of : {X : Type 0} (r : ℕ) (xs : List X) → drop r xs ≡ [] → IsOver r xs
over_of r xs e =
    let h = ends r xs e in let one : r + 1 ≡ suc r = omega arith in
    record { front = ap (λ n. take n xs) one ∙ h.0; rest = ap (λ n. drop n xs) one ∙ h.1 }

script_calls_more : (editor index : ℕ) (cs : List Cmd) (c : Cmd)
    → script_calls editor index (cs ++ c ∷ []) ≡ script_calls editor index cs ++ record { editor = editor; index = index + length cs; command = c } ∷ []
script_calls_more editor index [] c = ap (λ n. record { editor = editor; index = n; command = c } ∷ []) (omega arith)
script_calls_more editor index (x ∷ cs) c =
    ap (λ t. record { editor = editor; index = index; command = x } ∷ t) (script_calls_more editor (index + 1) cs c
    ∙ ap (λ n. script_calls editor (index + 1) cs ++ record { editor = editor; index = n; command = c } ∷ []) (omega arith))

-- the calls of the commands of a front and the next
pub front_calls : (editor r : ℕ) (s cs : List Cmd) (c : Cmd) → GoesOn r s c cs
    → script_calls editor 0 (take (r + 1) s) ≡ script_calls editor 0 (take r s) ++ record { editor = editor; index = r; command = c } ∷ []
front_calls editor r s cs c is =
    ap (script_calls editor 0) is.front ∙ (script_calls_more editor 0 (take r s) c
    ∙ ap (λ n. script_calls editor 0 (take r s) ++ record { editor = editor; index = n; command = c } ∷ []) (let n = is.count in omega (arith, n)))

pub own_more : (cs : List Call) (c : Call) → calls_of c.editor (cs ++ c ∷ []) ≡ calls_of c.editor cs ++ c ∷ []
own_more cs c =
    flat_map-append (call_if_of c.editor) cs (c ∷ []) ∙ ap (λ ds. calls_of c.editor cs ++ ds) (own_first c [])

pub other_more : (editor : ℕ) (cs : List Call) (c : Call) → (c.editor ≡ editor → ⊥) → calls_of editor (cs ++ c ∷ []) ≡ calls_of editor cs
other_more editor cs c other =
    flat_map-append (call_if_of editor) cs (c ∷ [])
    ∙ (ap (λ b. calls_of editor cs ++ ((if b then c ∷ [] else []) ++ [])) (ne_eqb c.editor editor other) ∙ append-nil (calls_of editor cs))
