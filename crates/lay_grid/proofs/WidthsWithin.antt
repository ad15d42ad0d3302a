-- Columns of sizes have widths that are sizes.
use Rattle.std.proofs.Common.{◌≡◌, ◌⊎◌, inl, inr, ℕ, zero, suc, ◌+◌, ◌-◌, ◌*◌, ◌<◌, ◌≤◌, ◌/◌, ◌%◌, ℤ, pos, ◌-ℤ◌, ◌*ℤ◌, ◌≤ℤ◌, ◌<ℤ◌, Bool, true, false, cond, Option, None, Some, List, [], ◌∷◌, length, refl, sym, ap, subst, get_or, arith}
use Rattle.std.specs.List.{All}
use Rattle.std.proofs.lemmas.Int.{ints, clamps, by_lt_z}
use Rattle.std.proofs.lemmas.Bool.{cases_lt}
use Rattle.std.proofs.Math.Nat.{div-add-mod, mul-le-mul_left}
use Rattle.std.proofs.lemmas.List.Elements.{All-head, All-tail}
use Rattle.std.proofs.lemmas.Option.{slice_get-get_or}
use Rattle.lay_units.specs.declared.length.Unit.{Unit}
use Rattle.lay_grid.specs.declared.columns.FirstCell.{FirstCell}
use Rattle.lay_grid.specs.declared.columns.ColumnsIn.{ColumnsIn}
use Rattle.lay_grid.specs.Shares.{AreShared, own_width, sum_own, sum_of, width_at, own_at, takes_at}
use Rattle.lay_grid.specs.Columns.{AreOwn, or_else, by_cells, given_by, covers_column, part_for, part_of, divided, width_of_columns}
use Rattle.lay_grid.specs.Within.{IsUpTo, CellUpTo, TakeUpTo, WidthsAreWithin}
use Rattle.lay_grid.proofs.HeightsWithin.{product_up}
use Rattle.lay_grid.proofs.Products.{from_zero_below, greater_part, lesser_part}

abbrev Up : ℕ → Option Unit → Type 0
Up most own = IsUpTo most (own_width own)

none_up : (most : ℕ) → Up most None
none_up most = (omega (arith, ints), omega (arith, ints))

or_up : (most : ℕ) (a b : Option Unit) → Up most a → Up most b → Up most (or_else a b)
or_up most None b p q = q
or_up most (Some a) b p q = p

part_least : (width n k : ℕ) → 1 ≤ n → part_of width n k ≤ width
part_least width n k some = from (cases_lt k (width % n))
  where
    from : ((k < width % n) ⊎ (width % n ≤ k)) → part_of width n k ≤ width
    from (inl less) = let e = greater_part width n k less in let d = div-add-mod width n in let h = mul-le-mul_left (width / n) some in omega
        (arith, e, d, h, less)
    from (inr not) = let e = lesser_part width n k not in let d = div-add-mod width n in let h = mul-le-mul_left (width / n) some in omega (arith, e, d, h)

part_up : (most : ℕ) (spacing : ℤ) (cell : FirstCell) (width : ℤ) (i : ℕ) → 1 ≤ cell.span → width ≤ℤ pos most → pos 0 ≤ℤ spacing
    → Up most (Some (part_for spacing cell width i))
part_up most spacing cell width i some fits up =
    let a = product_up spacing (cell.span - 1) up in
    let b = from_zero_below (width -ℤ (spacing *ℤ pos (cell.span - 1))) most (omega (arith, ints, a, fits)) in
    let c = part_least (divided spacing width cell.span) cell.span (i - cell.column) some in
    (omega (arith, ints), omega (arith, ints, b, c))

given_up : (most : ℕ) (spacing : ℤ) (cell : FirstCell) (own : Option Unit) (i : ℕ) → 1 ≤ cell.span → own_width own ≤ℤ pos most → pos 0 ≤ℤ spacing
    → Up most (given_by spacing cell own i)
given_up most spacing cell None i some fits up = none_up most
given_up most spacing cell (Some width) i some fits up = from (covers_column cell i)
  where
    from : (b : Bool) → Up most (cond b (Some (part_for spacing cell width.0 i)) None)
    from true = part_up most spacing cell width.0 i some fits up
    from false = none_up most

cells_up : (most : ℕ) (spacing : ℤ) (cells : List FirstCell) (i : ℕ) → All (CellUpTo most) cells → pos 0 ≤ℤ spacing → Up most (by_cells spacing cells i)
cells_up most spacing [] i fits up = none_up most
cells_up most spacing (cell ∷ cells) i fits up =
    let h = All-head (CellUpTo most) cell cells fits in
    or_up most (given_by spacing cell cell.width i) (by_cells spacing cells i) (given_up most spacing cell cell.width i h.some h.width up)
    (cells_up most spacing cells i (All-tail (CellUpTo most) cell cells fits) up)

owns_up : (c : ColumnsIn) (most : ℕ) (owns : List (Option Unit)) → TakeUpTo c most → AreOwn c owns → (i : ℕ) → i < length owns → Up most (own_at owns i)
owns_up c most owns take are i less =
    let n = are.as_many in
    let lt : i < length c.given = omega (arith, n, less) in
    subst (Up most) (sym (are.own i lt)) (or_up most (own_at c.given i) (by_cells c.spacing.0 c.first i) (take.given i None lt)
    (cells_up most c.spacing.0 c.first i take.first take.spacing))

sum_own_up : (most : ℕ) (owns : List (Option Unit)) → ((i : ℕ) → i < length owns → Up most (own_at owns i)) → IsUpTo (most * length owns) (sum_own owns)
sum_own_up most [] up = (omega (arith, ints), omega (arith, ints))
sum_own_up most (own ∷ owns) up =
    let h = up zero (omega arith) in let a = h.0 in let b = h.1 in
    let t = sum_own_up most owns (λ i less. up (suc i) (omega (arith, less))) in let c = t.0 in let d = t.1 in
    (omega (arith, ints, a, c), omega (arith, ints, b, d))

-- widths that are nowhere greater than the columns' own
sums_most : (widths : List Unit) (owns : List (Option Unit)) → length widths ≡ length owns
    → ((k : ℕ) → k < length owns → width_at widths k ≤ℤ own_width (own_at owns k)) → sum_of widths ≤ℤ sum_own owns
sums_most [] [] e p = omega (arith, ints)
sums_most [] (own ∷ owns) e p = absurd (omega (arith, e))
sums_most (w ∷ widths) [] e p = absurd (omega (arith, e))
sums_most (w ∷ widths) (own ∷ owns) e p =
    let h = p zero (omega arith) in
    let t = sums_most widths owns (omega (arith, e)) (λ k less. p (suc k) (omega (arith, less))) in
    omega (arith, ints, h, t)

sums_less : (widths : List Unit) (owns : List (Option Unit)) (i : ℕ) → length widths ≡ length owns
    → ((k : ℕ) → k < length owns → width_at widths k ≤ℤ own_width (own_at owns k)) → i < length owns → width_at widths i <ℤ own_width (own_at owns i)
    → sum_of widths <ℤ sum_own owns
sums_less [] [] i e p lt less = absurd (omega (arith, lt))
sums_less [] (own ∷ owns) i e p lt less = absurd (omega (arith, e))
sums_less (w ∷ widths) [] i e p lt less = absurd (omega (arith, e))
sums_less (w ∷ widths) (own ∷ owns) zero e p lt less =
    let t = sums_most widths owns (omega (arith, e)) (λ k below. p (suc k) (omega (arith, below))) in
    omega (arith, ints, less, t)
sums_less (w ∷ widths) (own ∷ owns) (suc i) e p lt less =
    let h = p zero (omega arith) in
    let t = sums_less widths owns i (omega (arith, e)) (λ k below. p (suc k) (omega (arith, below))) (omega (arith, lt)) less in
    omega (arith, ints, h, t)

-- no column gets less than its own width
no_less : (owns : List (Option Unit)) (asked : ℤ) (widths : List Unit) → AreShared owns asked widths → (i : ℕ) → i < length owns
    → own_width (own_at owns i) ≤ℤ width_at widths i
no_less owns asked widths p i lt = by_lt_z (width_at widths i) (own_width (own_at owns i)) (λ less. absurd (never less)) (λ not. not)
  where
    most : width_at widths i <ℤ own_width (own_at owns i) → (k : ℕ) → k < length owns → width_at widths k ≤ℤ own_width (own_at owns k)
    most less k within = from (takes_at owns k) (takes_at owns i) refl refl
      where
        from : (a b : Bool) → takes_at owns k ≡ a → takes_at owns i ≡ b → width_at widths k ≤ℤ own_width (own_at owns k)
        from false b t s = let x = p.kept k within t in omega (arith, ints, x)
        from true false t s = let x = p.kept i lt s in absurd (omega (arith, ints, x, less))
        from true true t s = elim (cases_lt k i) [
          | inl before ↦ (let x = (p.equal k i before lt t s).1 in omega (arith, ints, x, less))
          | inr not ↦ elim (cases_lt i k) [
            | inl after ↦ (let x = (p.equal i k after within s t).0 in omega (arith, ints, x, less))
            | inr also ↦ (let e : i ≡ k = omega (arith, not, also) in subst (λ (m : ℕ). width_at widths m ≤ℤ own_width (own_at owns m)) e
                (omega (arith, ints, less)))
          ]
        ]

    never : width_at widths i <ℤ own_width (own_at owns i) → ⊥
    never less =
        let a = sums_less widths owns i p.as_many (most less) lt less in
        let b = p.sum (omega (arith, lt)) in
        omega (arith, ints, clamps, a, b)

each_below : (widths : List Unit) → ((k : ℕ) → k < length widths → pos 0 ≤ℤ width_at widths k)
    → (pos 0 ≤ℤ sum_of widths) × ((i : ℕ) → i < length widths → width_at widths i ≤ℤ sum_of widths)
each_below [] up = (omega (arith, ints), λ i less. absurd (omega (arith, less)))
each_below (w ∷ widths) up =
    let h = up zero (omega arith) in
    let t = each_below widths (λ k less. up (suc k) (omega (arith, less))) in
    let s = t.0 in
    (omega (arith, ints, h, s), below h t)
  where
    below : pos 0 ≤ℤ w.0 → ((pos 0 ≤ℤ sum_of widths) × ((i : ℕ) → i < length widths → width_at widths i ≤ℤ sum_of widths)) → (i : ℕ)
        → i < length (w ∷ widths) → width_at (w ∷ widths) i ≤ℤ sum_of (w ∷ widths)
    below h t zero less = let s = t.0 in omega (arith, ints, s)
    below h t (suc i) less = let s = t.1 i (omega (arith, less)) in omega (arith, ints, h, s)

pub widths_are_within_lem : WidthsAreWithin
widths_are_within_lem c most widths take are = λ i d less. (
  up i less d,
  subst (λ (v : ℤ). v ≤ℤ pos (most * (length c.given + 1))) (at i d less)
      (within i less),
)
  where
    owns : List (Option Unit)
    owns = are.owns

    many : length widths ≡ length owns
    many = are.shared.as_many

    at : (i : ℕ) (d : Unit) → i < length widths → width_at widths i ≡ (get_or widths i d).0
    at i d less = ap (λ (u : Unit). u.0) (cc (slice_get-get_or widths i d less, slice_get-get_or widths i (record { 0 = pos 0 }) less))

    from_own : (i : ℕ) → i < length widths → pos 0 ≤ℤ width_at widths i
    from_own i less =
        let a = (owns_up c most owns take are.own i (omega (arith, many, less))).0 in
        let b = no_less owns (width_of_columns c) widths are.shared i (omega (arith, many, less)) in
        omega (arith, ints, a, b)

    up : (i : ℕ) → i < length widths → (d : Unit) → pos 0 ≤ℤ (get_or widths i d).0
    up i less d = subst (λ (v : ℤ). pos 0 ≤ℤ v) (at i d less) (from_own i less)

    within : (i : ℕ) → i < length widths → width_at widths i ≤ℤ pos (most * (length c.given + 1))
    within i less =
        let a = (each_below widths from_own).1 i less in
        let b = are.shared.sum (omega (arith, many, less)) in
        let s = (sum_own_up most owns (owns_up c most owns take are.own)).1 in
        let n : length owns ≡ length c.given = are.own.as_many in
        let e = ap (λ (m : ℕ). most * m) n in
        let w = take.width in
        let p = product_up c.spacing.0 (length c.given + 1) take.spacing in
        omega (arith, ints, clamps, a, b, s, e, w, p)
