-- Columns have one list of widths, and rows one list of heights.
use Rattle.std.proofs.Common.{◌≡◌, ℤ, Option, None, List, [], ◌∷◌, ◌++◌, length, refl, sym, ap, ◌∙◌, subst, arith}
use Rattle.std.proofs.lemmas.Int.{ints}
use Rattle.std.proofs.lemmas.List.{ext_get_or}
use Rattle.lay_units.specs.declared.length.Unit.{Unit}
use Rattle.lay_grid.specs.declared.heights.RowsIn.{RowsIn}
use Rattle.lay_grid.specs.Shares.{AreShared}
use Rattle.lay_grid.specs.Columns.{width_of_columns}
use Rattle.lay_grid.specs.Heights.{IsLowest, AreLowest}
use Rattle.lay_grid.specs.Laws.{OneColumns, OneHeights, OneListOfOwnWidths}
use Rattle.lay_grid.proofs.OneSharing.{one_sharing_lem}

pub one_list_of_own_widths_lem : OneListOfOwnWidths
one_list_of_own_widths_lem c xs ys p q =
    let a = p.as_many in
    ext_get_or None xs ys (p.as_many ∙ sym q.as_many) (λ i lt. p.own i (omega (arith, a, lt)) ∙ sym (q.own i (omega (arith, a, lt))))

pub one_columns_lem : OneColumns
one_columns_lem c v w p q =
    one_sharing_lem q.owns (width_of_columns c) v w (subst (λ (xs : List (Option Unit)). AreShared xs (width_of_columns c) v)
    (one_list_of_own_widths_lem c p.owns q.owns p.own q.own) p.shared) q.shared

height_same : (r : RowsIn) (above : List Unit) (x y : Unit) → IsLowest r above x.0 → IsLowest r above y.0 → x ≡ y
height_same r above x y p q =
    let a = p.least y.0 q.fits in let b = q.least x.0 p.fits in
    let e : x.0 ≡ y.0 = omega (arith, ints, a, b) in
    let unit : ℤ → Unit = λ v. record { 0 = v } in
    ap unit e

heights_same : (r : RowsIn) (above v w : List Unit) → length v ≡ length w → AreLowest r above v → AreLowest r above w → v ≡ w
heights_same r above [] [] e p q = refl
heights_same r above [] (y ∷ w) e p q = absurd (omega (arith, e))
heights_same r above (x ∷ v) [] e p q = absurd (omega (arith, e))
heights_same r above (x ∷ v) (y ∷ w) e p q =
    let h = height_same r above x y p.0 q.0 in
    let t = heights_same r (above ++ y ∷ []) v w (omega (arith, e)) (subst (λ (z : Unit). AreLowest r (above ++ z ∷ []) v) h p.1) q.1 in
    ap (λ (z : Unit). z ∷ v) h ∙ ap (λ (zs : List Unit). y ∷ zs) t

pub one_heights_lem : OneHeights
one_heights_lem r v w p q = heights_same r [] v w (p.as_many ∙ sym q.as_many) p.lowest q.lowest
