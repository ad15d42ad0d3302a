-- As many elements as are told apart by their numbers are in a list.
use Rattle.std.proofs.Common.{◌≡◌, ℕ, zero, suc, ◌≤◌, ◌<◌, List, [], ◌∷◌, Some, length, slice_get, refl, rules, arith, ap, sym, subst, ◌∙◌}
use Rattle.std.proofs.lemmas.Option.{same_Some}
use Rattle.lay_cells.specs.Shapes.{IsIn}

-- all but the element at a place
abbrev without : {X : Type 0} → List X → ℕ → List X
without [] i = []
without (x ∷ xs) zero = xs
without (x ∷ xs) (suc i) = x ∷ without xs i

in_without : {X : Type 0} (xs : List X) (i j : ℕ) (y : X) → (j ≡ i → ⊥) → slice_get xs j ≡ Some y → IsIn (without xs i) y
in_without [] i j y apart at = absurd (grind (rules, at))
in_without (x ∷ xs) zero zero y apart at = absurd (apart refl)
in_without (x ∷ xs) zero (suc j) y apart at = (j, at)
in_without (x ∷ xs) (suc i) zero y apart at = (zero, at)
in_without (x ∷ xs) (suc i) (suc j) y apart at = let h = in_without xs i j y (λ e. apart (ap suc e)) at in (suc h.0, h.1)

length_without : {X : Type 0} (xs : List X) (i : ℕ) (x : X) → slice_get xs i ≡ Some x → length xs ≡ suc (length (without xs i))
length_without [] i x at = absurd (grind (rules, at))
length_without (a ∷ xs) zero x at = refl
length_without (a ∷ xs) (suc i) x at = ap suc (length_without xs i x at)

pub pigeonhole : {X : Type 0} (Q : ℕ → X → Type 0) → ((i j : ℕ) (x : X) → Q i x → Q j x → i ≡ j)
    → (m : ℕ) (xs : List X) → ((i : ℕ) → i < m → (x : X) × IsIn xs x × Q i x) → m ≤ length xs
pigeonhole Q apart zero xs has = omega arith
pigeonhole {X} Q apart (suc m) xs has =
    let last = has m (omega arith) in
    let rest = pigeonhole Q apart m (without xs last.1.0) (λ i lt. others last i lt (has i (omega (arith, lt)))) in
    let count = length_without xs last.1.0 last.0 last.1.1 in
    omega (arith, rest, count)
  where
    others : (last : (x : X) × IsIn xs x × Q m x) (i : ℕ) → i < m → (h : (x : X) × IsIn xs x × Q i x)
        → (x : X) × IsIn (without xs last.1.0) x × Q i x
    others last i lt h = (h.0, in_without xs last.1.0 h.1.0 h.0 differ h.1.1, h.2)
      where
        differ : h.1.0 ≡ last.1.0 → ⊥
        differ e =
            let same : h.0 ≡ last.0 = same_Some h.0 last.0 (sym h.1.1 ∙ ap (slice_get xs) e ∙ last.1.1) in
            let number : i ≡ m = apart i m last.0 (subst (Q i) same h.2) last.2 in
            omega (arith, number, lt)
