-- Columns share a width in one way.
use Rattle.std.proofs.Common.{◌≡◌, ◌⊎◌, inl, inr, ℕ, ◌<◌, ℤ, ◌≤ℤ◌, ◌<ℤ◌, List, length, sym, ◌∙◌, arith}
use Rattle.std.proofs.lemmas.Int.{ints, by_lt_z}
use Rattle.std.proofs.lemmas.Bool.{cases_lt}
use Rattle.lay_units.specs.declared.length.Unit.{Unit}
use Rattle.lay_grid.specs.declared.automatic.bounds.Bound.{Bound}
use Rattle.lay_grid.specs.Shares.{sum_of, width_at}
use Rattle.lay_grid.specs.Automatic.AutoColumns.{AreBeyondMaximums, AreInProportion, sum_max}
use Rattle.lay_grid.specs.Automatic.Laws.{OneListOfColumns}
use Rattle.lay_grid.proofs.AutomaticLemmas.Sums.{find, same_sums, same_widths}

beyond_same : (bounds : List Bound) (space : ℤ) (v w : List Unit) → AreBeyondMaximums bounds space v → AreBeyondMaximums bounds space w → v ≡ w
beyond_same bounds space v w p q =
    let a = p.as_many in
    same_widths v w (p.as_many ∙ sym q.as_many) (λ i less. p.each i (omega (arith, a, less)) ∙ sym (q.each i (omega (arith, a, less))))

-- where v is the lesser once it is nowhere the greater
nowhere : (bounds : List Bound) (space : ℤ) (v w : List Unit) → AreInProportion bounds space v → AreInProportion bounds space w
    → (i : ℕ) → i < length bounds → width_at v i <ℤ width_at w i → (k : ℕ) → k < length bounds → width_at v k ≤ℤ width_at w k
nowhere bounds space v w p q i lt less k within = elim (cases_lt k i) [
  | inl before ↦ (let u = p.left_over i lt in let u0 = u.0 in let f = q.first k i before lt (omega (arith, ints, u0, less)) in
      let x = p.left_over k within in let x1 = x.1 in omega (arith, ints, f, x1))
  | inr not ↦ elim (cases_lt i k) [
    | inl after ↦ by_lt_z (width_at w k) (width_at v k) (λ more. let y = q.left_over k within in let y0 = y.0 in
        let f = p.first i k after within (omega (arith, ints, y0, more)) in let z = q.left_over i lt in let z1 = z.1 in
        absurd (omega (arith, ints, f, z1, less))) (λ no-more. no-more)
    | inr also ↦ (let e : i ≡ k = omega (arith, not, also) in rw (← e) (omega (arith, ints, less)))
  ]
]

proportion_same : (bounds : List Bound) (space : ℤ) (v w : List Unit) → AreInProportion bounds space v → AreInProportion bounds space w → v ≡ w
proportion_same bounds space v w p q = elim (cases_lt 0 (length bounds)) [
  | inl some ↦ from (p.sum some ∙ sym (q.sum some)) (find v w (length bounds))
  | inr none ↦ (let a = p.as_many in same_widths v w lengths (λ i less. absurd (omega (arith, a, less, none))))
]
  where
    lengths : length v ≡ length w
    lengths = p.as_many ∙ sym q.as_many

    from : sum_of v ≡ sum_of w
        → (((i : ℕ) × (i < length bounds) × (width_at v i <ℤ width_at w i)) ⊎ ((i : ℕ) → i < length bounds → width_at w i ≤ℤ width_at v i)) → v ≡ w
    from s (inl at) = let a = p.as_many in same_sums v w lengths (λ k less. nowhere bounds space v w p q at.0 at.1 at.2 k (omega (arith, a, less)))
        (omega (arith, ints, s))
    from s (inr none) = let b = q.as_many in sym (same_sums w v (sym lengths) (λ k less. none k (omega (arith, b, less))) (omega (arith, ints, s)))

pub one_list_of_columns_lem : OneListOfColumns
one_list_of_columns_lem bounds space v w p q = by_lt_z (sum_max bounds) space
    (λ more. beyond_same bounds space v w (p.beyond more) (q.beyond more))
    (λ within. proportion_same bounds space v w (p.within within) (q.within within))
