-- A cell widens its columns by what it lacks, and each of them alike.
use Rattle.std.proofs.Common.{◌≡◌, inl, inr, ℕ, zero, suc, ◌+◌, ◌-◌, ◌≤◌, ◌/◌, ◌%◌, ℤ, pos, ◌+ℤ◌, ◌-ℤ◌, ◌*ℤ◌, Bool, false, cond, nat_lt}
use Rattle.std.proofs.Common.{List, length, take, drop, sym, ap, ◌∙◌, arith}
use lib.IntN.{negsuc}
use Rattle.std.specs.Int.{int_max}
use Rattle.std.proofs.Math.IntN.{*ℤ_comm, *ℤ-zero, suc_ℤ-*ℤ}
use Rattle.std.proofs.lemmas.Int.{ints, clamps}
use Rattle.std.proofs.lemmas.Bool.{cases_lt, cond_above, cond_below, le-ltb}
use Rattle.std.proofs.lemmas.List.{drop_more}
use Rattle.lay_units.specs.declared.length.Unit.{Unit}
use Rattle.lay_grid.specs.declared.automatic.bounds.GroupSpan.{GroupSpan}
use Rattle.lay_grid.specs.Columns.{from_zero, part_of}
use Rattle.lay_grid.specs.Shares.{width_at}
use Rattle.lay_grid.proofs.Products.{greater_part, lesser_part}
use Rattle.lay_grid.specs.Automatic.Spread.{IsWidened, added, found_in, lacking, spans, sum_over}
use Rattle.lay_grid.specs.Automatic.Fit.{SpanFits}
use Rattle.lay_grid.specs.Automatic.Laws.{CellsWidenByNeed, IsSpanned, width_growth, side_by_side, spanned, with_spacings_before}
use Rattle.lay_grid.proofs.AutomaticLemmas.Parts.{parts_sum}
use Rattle.lay_grid.proofs.AutomaticLemmas.Room.{added_in, sums_more}

times_none : (z : ℤ) → (z *ℤ pos 0) ≡ pos 0
times_none z = *ℤ-zero z

times_more : (z : ℤ) (n : ℕ) → (z *ℤ pos (suc n)) ≡ ((z *ℤ pos n) +ℤ z)
times_more z n = *ℤ_comm z (pos (suc n)) ∙ suc_ℤ-*ℤ (pos n) z ∙ ap (λ (y : ℤ). y +ℤ z) (*ℤ_comm (pos n) z)

-- columns with a spacing before each
with_spacings_are : (spacing : ℤ) (ws : List Unit) (column n : ℕ) → column + n ≤ length ws
    → with_spacings_before spacing (take n (drop column ws)) ≡ (sum_over ws column n +ℤ (spacing *ℤ pos n))
with_spacings_are spacing ws column zero inside = let z = times_none spacing in omega (arith, ints, z)
with_spacings_are spacing ws column (suc n) inside =
    let d = drop_more ws column (record { 0 = pos 0 }) (omega (arith, inside)) in
    let e : with_spacings_before spacing (take (suc n) (drop column ws))
    ≡ ((spacing +ℤ width_at ws column) +ℤ with_spacings_before spacing (take n (drop (column + 1) ws))) =
    ap (λ (xs : List Unit). with_spacings_before spacing (take (suc n) xs)) d in
    let h = with_spacings_are spacing ws (column + 1) n (omega (arith, inside)) in
    let p = times_more spacing n in
    omega (arith, ints, e, h, p)

-- so columns side by side are what a cell finds in them
side_by_side_are : (spacing : ℤ) (ws : List Unit) (column n : ℕ) → column + suc n ≤ length ws
    → side_by_side spacing (take (suc n) (drop column ws)) ≡ (sum_over ws column (suc n) +ℤ (spacing *ℤ pos n))
side_by_side_are spacing ws column n inside =
    let d = drop_more ws column (record { 0 = pos 0 }) (omega (arith, inside)) in
    let e : side_by_side spacing (take (suc n) (drop column ws))
    ≡ (width_at ws column +ℤ with_spacings_before spacing (take n (drop (column + 1) ws))) =
    ap (λ (xs : List Unit). side_by_side spacing (take (suc n) xs)) d in
    let h = with_spacings_are spacing ws (column + 1) n (omega (arith, inside)) in
    omega (arith, ints, e, h)

pub found_is : (spacing : ℤ) (cell : GroupSpan) (ws : List Unit) → SpanFits (length ws) cell
    → side_by_side spacing (spanned cell ws) ≡ found_in spacing cell ws
found_is spacing cell ws fits =
    let some = fits.some in let inside = fits.inside in
    let n : cell.span ≡ suc (cell.span - 1) = omega (arith, some) in
    let h = side_by_side_are spacing ws cell.column (cell.span - 1) (omega (arith, some, inside)) in
    ap (λ (m : ℕ). side_by_side spacing (take m (drop cell.column ws))) n ∙ h
    ∙ ap (λ (m : ℕ). sum_over ws cell.column m +ℤ (spacing *ℤ pos (cell.span - 1))) (sym n)

from_zero_is : (z : ℤ) → pos (from_zero z) ≡ int_max z (pos 0)
from_zero_is (pos n) = omega (arith, ints, clamps)
from_zero_is (negsuc n) = omega (arith, ints, clamps)

together_are : (spacing : ℤ) (cell : GroupSpan) (before after : List Unit) → IsWidened spacing cell before after → SpanFits (length before) cell
    → found_in spacing cell after ≡ int_max cell.width.0 (found_in spacing cell before)
together_are spacing cell before after w fits =
    let e : cell.column + 0 ≡ cell.column = omega arith in
    let x = ap (λ (c : ℕ). sum_over after c cell.span) e in
    let y = ap (λ (c : ℕ). sum_over before c cell.span) e in
    let h = sums_more spacing cell before after w fits.inside 0 cell.span (omega arith) in
    let p = parts_sum (lacking spacing cell before) cell.span fits.some in
    let l = from_zero_is (cell.width.0 -ℤ found_in spacing cell before) in
    omega (arith, ints, clamps, x, y, h, p, l)

part_between : (width n k : ℕ) → (width / n ≤ part_of width n k) × (part_of width n k ≤ width / n + 1)
part_between width n k = elim (cases_lt k (width % n)) [
  | inl less ↦ (let e = greater_part width n k less in (omega (arith, e), omega (arith, e)))
  | inr not ↦ (let e = lesser_part width n k not in (omega (arith, e), omega (arith, e)))
]

-- what a column grows by
growth_is : (spacing : ℤ) (cell : GroupSpan) (before after : List Unit) → IsWidened spacing cell before after → SpanFits (length before) cell
    → (i : ℕ) → IsSpanned cell i → width_growth before after i ≡ pos (part_of (lacking spacing cell before) cell.span (i - cell.column))
growth_is spacing cell before after w fits i is =
    let from = is.0 in let to = is.1 in let inside = fits.inside in
    let e : cell.column + (i - cell.column) ≡ i = omega (arith, from) in
    let a = w.each i (omega (arith, to, inside)) in
    let p = ap (added spacing cell before) (sym e) ∙ added_in spacing cell before (i - cell.column) (omega (arith, from, to)) in
    omega (arith, ints, a, p)

-- a column that it doesn't span stays
none_added : (spacing : ℤ) (cell : GroupSpan) (before : List Unit) (i : ℕ) → (IsSpanned cell i → ⊥) → added spacing cell before i ≡ 0
none_added spacing cell before i not = elim (cases_lt i cell.column) [
  | inl less ↦ over (sym (cond_below {X = Bool} i cell.column false (nat_lt i (cell.column + cell.span)) less))
  | inr more ↦ (elim (cases_lt i (cell.column + cell.span)) [
    | inl inside ↦ absurd (not (more, inside))
    | inr past ↦ over (sym (cond_above {X = Bool} i cell.column false (nat_lt i (cell.column + cell.span)) false more (sym (le-ltb i (cell.column + cell.span) past))))
  ])
]
  where
    over : spans cell i ≡ false → added spacing cell before i ≡ 0
    over e = ap (λ (b : Bool). cond b (part_of (lacking spacing cell before) cell.span (i - cell.column)) 0) e

pub cells_widen_by_need_lem : CellsWidenByNeed
cells_widen_by_need_lem spacing cell before after fits w =
    let n = w.as_many in
    let more : SpanFits (length after) cell = record { some = fits.some; inside = (let a = fits.inside in omega (arith, a, n)); width = fits.width } in
    record {
      together = found_is spacing cell after more ∙ together_are spacing cell before after w fits
          ∙ ap (int_max cell.width.0) (sym (found_is spacing cell before fits));
      wider = λ i is. let e = growth_is spacing cell before after w fits i is in omega (arith, ints, e);
      alike = λ i j p q. let e = growth_is spacing cell before after w fits i p in let f = growth_is spacing cell before after w fits j q in
          let a = (part_between (lacking spacing cell before) cell.span (i - cell.column)).1 in
          let b = (part_between (lacking spacing cell before) cell.span (j - cell.column)).0 in
          omega (arith, ints, e, f, a, b);
      others = λ i less not. let a = w.each i less in let e = none_added spacing cell before i not in omega (arith, ints, a, e);
    }
