-- Columns are together as wide as the table says, and each is within its bounds as far as that goes.
use Rattle.std.proofs.Common.{◌≡◌, ◌⊎◌, inl, inr, ℕ, zero, suc, ◌+◌, ◌*◌, ◌<◌, ◌≤◌, ◌/◌, ℤ, pos, ◌+ℤ◌, ◌-ℤ◌, ◌≤ℤ◌, ◌<ℤ◌, List, [], ◌∷◌, length, refl, sym, ap, ◌∙◌, arith}
use Rattle.std.specs.List.{All}
use Rattle.std.proofs.lemmas.Int.{ints, by_lt_z}
use Rattle.std.proofs.lemmas.Bool.{cases_lt, cond_above}
use Rattle.std.proofs.Math.Nat.{div-le_of_le-mul, le_of_mul-le-mul_right, mul-div-le, mul-div_cancel_left, mul-le-mul_left, mul-le-mul_right}
use Rattle.lay_units.specs.declared.length.Unit.{Unit}
use Rattle.lay_grid.specs.declared.automatic.bounds.Bound.{Bound}
use Rattle.lay_grid.specs.Columns.{from_zero, part_of}
use Rattle.lay_grid.specs.Shares.{sum_of, width_at}
use Rattle.lay_grid.specs.Automatic.Bounds.{bound_at, max_at, min_at}
use Rattle.lay_grid.specs.Automatic.AutoColumns.{AreBeyondMaximums, AreInProportion, beyond_minimums, most_left_over, room, share_of, sum_max, sum_min, sum_room}
use Rattle.lay_grid.specs.Automatic.Fit.{BoundFits}
use Rattle.lay_grid.specs.Automatic.Laws.{ColumnsAreWithin, ColumnsFillTheSpace, maximums_of}
use Rattle.lay_grid.proofs.AutomaticLemmas.Parts.{parts_from, parts_sum}
use Rattle.lay_grid.proofs.AutomaticLemmas.ShareSteps.{from_zero_is, most_up, room_is, rooms_are, room_below}
use Rattle.lay_grid.proofs.AutomaticLemmas.Sums.{same_sums}

-- columns with the parts from the k-th on
beyond_sum : (rest n k : ℕ) (bounds : List Bound) (widths : List Unit) → length widths ≡ length bounds
    → ((i : ℕ) → i < length bounds → width_at widths i ≡ (max_at bounds i +ℤ pos (part_of rest n (k + i))))
    → sum_of widths ≡ (sum_max bounds +ℤ pos (parts_from rest n k (length bounds)))
beyond_sum rest n k [] [] e each = omega (arith, ints)
beyond_sum rest n k [] (w ∷ widths) e each = absurd (omega (arith, e))
beyond_sum rest n k (bound ∷ bounds) [] e each = absurd (omega (arith, e))
beyond_sum rest n k (bound ∷ bounds) (w ∷ widths) e each =
    let a = each zero (omega arith) in
    let z : part_of rest n (k + zero) ≡ part_of rest n k = ap (part_of rest n) (omega arith) in
    let h = beyond_sum rest n (k + 1) bounds widths (omega (arith, e)) (λ i less.
    let s : part_of rest n (k + suc i) ≡ part_of rest n ((k + 1) + i) = ap (part_of rest n) (omega arith) in
    each (suc i) (omega (arith, less)) ∙ ap (λ (p : ℕ). max_at bounds i +ℤ pos p) s) in
    omega (arith, ints, a, z, h)

beyond_fills : (bounds : List Bound) (space : ℤ) (widths : List Unit) → 0 < length bounds → sum_max bounds <ℤ space
    → AreBeyondMaximums bounds space widths → sum_of widths ≡ space
beyond_fills bounds space widths some more are =
    let rest = from_zero (space -ℤ sum_max bounds) in
    let r : pos rest ≡ (space -ℤ sum_max bounds) = from_zero_is (space -ℤ sum_max bounds) (omega (arith, ints, more)) in
    let h = beyond_sum rest (length bounds) 0 bounds widths are.as_many (λ i less.
    let z : i ≡ 0 + i = omega arith in are.each i less ∙ ap (λ (j : ℕ). max_at bounds i +ℤ pos (part_of rest (length bounds) j)) z) in
    let p = parts_sum rest (length bounds) (omega (arith, some)) in
    omega (arith, ints, r, h, p)

pub columns_fill_the_space_lem : ColumnsFillTheSpace
columns_fill_the_space_lem bounds space widths some are = by_lt_z (sum_max bounds) space
    (λ more. beyond_fills bounds space widths some more (are.beyond more))
    (λ within. (are.within within).sum some)

-- the maximums as a list
maximums_length : (bounds : List Bound) → length (maximums_of bounds) ≡ length bounds
maximums_length [] = refl
maximums_length (bound ∷ bounds) = let h = maximums_length bounds in omega (arith, h)

maximums_sum : (bounds : List Bound) → sum_of (maximums_of bounds) ≡ sum_max bounds
maximums_sum [] = refl
maximums_sum (bound ∷ bounds) = let h = maximums_sum bounds in omega (arith, ints, h)

maximums_at : (bounds : List Bound) (i : ℕ) → i < length bounds → width_at (maximums_of bounds) i ≡ max_at bounds i
maximums_at [] i less = absurd (omega (arith, less))
maximums_at (bound ∷ bounds) zero less = refl
maximums_at (bound ∷ bounds) (suc i) less = maximums_at bounds i (omega (arith, less))

-- a share with a unit more where the table is less wide than the maximums
share_least : (rest rooms : ℕ) (bound : Bound) → rest < rooms → share_of rest rooms bound + most_left_over bound ≤ room bound
share_least rest rooms bound less = from (cases_lt 0 (room bound)) (cases_lt (share_of rest rooms bound) (room bound))
  where
    most : share_of rest rooms bound ≤ room bound
    most = div-le_of_le-mul rooms (mul-le-mul_right (room bound) (omega (arith, less)))

    from : ((0 < room bound) ⊎ (room bound ≤ 0)) → ((share_of rest rooms bound < room bound) ⊎ (room bound ≤ share_of rest rooms bound))
        → share_of rest rooms bound + most_left_over bound ≤ room bound
    from some (inl below) = let u = most_up bound in omega (arith, below, u)
    from (inl some) (inr above) =
        let a = mul-le-mul_left rooms above in
        let b = mul-div-le (rest * room bound) rooms in
        let c : rooms * room bound ≤ rest * room bound = omega (arith, a, b) in
        let d = le_of_mul-le-mul_right c some in
        absurd (omega (arith, d, less))
    from (inr none) (inr above) =
        let m : 0 ≡ most_left_over bound = cond_above {X = ℕ} 0 (room bound) 1 0 0 none refl in
        omega (arith, m, most)

-- a share where it is as wide
share_full : (rest rooms : ℕ) (bound : Bound) → rest ≡ rooms → room bound ≤ rooms → share_of rest rooms bound ≡ room bound
share_full rest rooms bound e below = from (cases_lt 0 rooms)
  where
    from : ((0 < rooms) ⊎ (rooms ≤ 0)) → share_of rest rooms bound ≡ room bound
    from (inl some) = ap (λ (r : ℕ). r * room bound / rooms) e ∙ mul-div_cancel_left (room bound) some
    from (inr none) =
        let z : room bound ≡ 0 = omega (arith, none, below) in
        let most : share_of rest rooms bound ≤ room bound = div-le_of_le-mul rooms (mul-le-mul_right (room bound) (omega (arith, e))) in
        omega (arith, z, most)

proportion_within : (bounds : List Bound) (space : ℤ) (widths : List Unit) (i : ℕ) → All BoundFits bounds → sum_min bounds ≤ℤ space
    → space ≤ℤ sum_max bounds → AreInProportion bounds space widths → i < length bounds → width_at widths i ≤ℤ max_at bounds i
proportion_within bounds space widths i fits least within are less = from (cases_lt rest rooms)
  where
    rest : ℕ
    rest = beyond_minimums bounds space

    rooms : ℕ
    rooms = sum_room bounds

    r : pos rest ≡ (space -ℤ sum_min bounds)
    r = from_zero_is (space -ℤ sum_min bounds) (omega (arith, ints, least))

    q : pos rooms ≡ (sum_max bounds -ℤ sum_min bounds)
    q = rooms_are bounds fits

    m : (k : ℕ) → k < length bounds → pos (room (bound_at bounds k)) ≡ (max_at bounds k -ℤ min_at bounds k)
    m k at = room_is (bound_at bounds k) (fits k _ at)

    -- all have their maximums
    full : rest ≡ rooms → maximums_of bounds ≡ widths
    full e =
        let n = are.as_many in let l = maximums_length bounds in
        let s = are.sum (omega (arith, less)) in let t = maximums_sum bounds in
        same_sums (maximums_of bounds) widths (l ∙ sym n) (λ k at.
        let inside : k < length bounds = omega (arith, l, at) in
        let x = maximums_at bounds k inside in let y = m k inside in
        let o = are.left_over k inside in let o0 = o.0 in
        let f = share_full rest rooms (bound_at bounds k) e (room_below bounds k _ inside) in
        omega (arith, ints, x, y, o0, f)) (omega (arith, ints, s, t, r, q, e))

    from : ((rest < rooms) ⊎ (rooms ≤ rest)) → width_at widths i ≤ℤ max_at bounds i
    from (inl below) =
        let o = are.left_over i less in let o1 = o.1 in let y = m i less in
        let s = share_least rest rooms (bound_at bounds i) below in
        omega (arith, ints, o1, y, s)
    from (inr above) =
        let e : rest ≡ rooms = omega (arith, ints, above, r, q, within) in
        let x = ap (λ (ws : List Unit). width_at ws i) (full e) in let y = maximums_at bounds i less in
        omega (arith, ints, x, y)

pub columns_are_within_lem : ColumnsAreWithin
columns_are_within_lem bounds space widths i fits least are less = record {
  least = by_lt_z (sum_max bounds) space (λ more. let a = (are.beyond more).each i less in omega (arith, ints, order, a))
      (λ within. let a = ((are.within within).left_over i less).0 in omega (arith, ints, a));
  most = λ within. proportion_within bounds space widths i fits least within (are.within within) less;
  beyond = λ more. let a = (are.beyond more).each i less in omega (arith, ints, a);
}
  where
    order : min_at bounds i ≤ℤ max_at bounds i
    order = (fits i _ less).order
