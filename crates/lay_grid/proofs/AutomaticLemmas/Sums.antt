-- Lists of widths that are the same, and sums of them.
use Rattle.std.proofs.Common.{◌≡◌, ◌⊎◌, inl, inr, ℕ, zero, suc, ◌<◌, ℤ, pos, ◌≤ℤ◌, ◌<ℤ◌, List, [], ◌∷◌, length, refl, ap, ◌∙◌, arith}
use Rattle.std.proofs.lemmas.Int.{ints, by_lt_z}
use Rattle.std.proofs.lemmas.Bool.{cases_lt}
use Rattle.std.proofs.lemmas.List.{ext_get_or}
use Rattle.lay_units.specs.declared.length.Unit.{Unit}
use Rattle.lay_grid.specs.Shares.{sum_of, width_at}

abbrev unit_of : ℤ → Unit
unit_of v = record { 0 = v }

pub unit_same : (x y : Unit) → x.0 ≡ y.0 → x ≡ y
unit_same x y e = let h : unit_of x.0 ≡ unit_of y.0 = rw e refl in h

pub same_widths : (v w : List Unit) → length v ≡ length w → ((i : ℕ) → i < length v → width_at v i ≡ width_at w i) → v ≡ w
same_widths v w e each = ext_get_or (record { 0 = pos 0 }) v w e (λ i less. unit_same _ _ (each i less))

-- widths that are nowhere greater and together no less are the same
sum_most : (v w : List Unit) → length v ≡ length w → ((i : ℕ) → i < length v → width_at v i ≤ℤ width_at w i) → sum_of v ≤ℤ sum_of w
sum_most [] [] e p = omega (arith, ints)
sum_most [] (y ∷ w) e p = absurd (omega (arith, e))
sum_most (x ∷ v) [] e p = absurd (omega (arith, e))
sum_most (x ∷ v) (y ∷ w) e p =
    let h = p zero (omega arith) in
    let t = sum_most v w (omega (arith, e)) (λ i lt. p (suc i) (omega (arith, lt))) in
    omega (arith, ints, h, t)

pub same_sums : (v w : List Unit) → length v ≡ length w → ((i : ℕ) → i < length v → width_at v i ≤ℤ width_at w i) → sum_of w ≤ℤ sum_of v → v ≡ w
same_sums [] [] e p s = refl
same_sums [] (y ∷ w) e p s = absurd (omega (arith, e))
same_sums (x ∷ v) [] e p s = absurd (omega (arith, e))
same_sums (x ∷ v) (y ∷ w) e p s =
    let n : length v ≡ length w = omega (arith, e) in
    let h = p zero (omega arith) in
    let t = sum_most v w n (λ i lt. p (suc i) (omega (arith, lt))) in
    let a = unit_same x y (omega (arith, ints, h, t, s)) in
    let b = same_sums v w n (λ i lt. p (suc i) (omega (arith, lt))) (omega (arith, ints, h, t, s)) in
    ap (λ (z : Unit). z ∷ v) a ∙ ap (λ (zs : List Unit). y ∷ zs) b

-- a place where v is the lesser, or none
pub find : (v w : List Unit) (n : ℕ) → ((i : ℕ) × (i < n) × (width_at v i <ℤ width_at w i)) ⊎ ((i : ℕ) → i < n → width_at w i ≤ℤ width_at v i)
find v w zero = inr (λ i lt. absurd (omega (arith, lt)))
find v w (suc n) = from (find v w n)
  where
    at : (i : ℕ) → n ≡ i → width_at w n ≤ℤ width_at v n → width_at w i ≤ℤ width_at v i
    at i e h = rw (← e) h

    from : (((i : ℕ) × (i < n) × (width_at v i <ℤ width_at w i)) ⊎ ((i : ℕ) → i < n → width_at w i ≤ℤ width_at v i))
        → ((i : ℕ) × (i < suc n) × (width_at v i <ℤ width_at w i)) ⊎ ((i : ℕ) → i < suc n → width_at w i ≤ℤ width_at v i)
    from (inl p) = let lt = p.1 in inl (p.0, omega (arith, lt), p.2)
    from (inr none) = by_lt_z (width_at v n) (width_at w n) (λ less. inl (n, omega arith, less)) (λ not. inr (λ i lt. elim (cases_lt i n) [
      | inl before ↦ none i before
      | inr after ↦ (let e : n ≡ i = omega (arith, lt, after) in at i e not)
    ]))
