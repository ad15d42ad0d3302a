-- Rows of sizes have heights that are sizes.
use Rattle.std.proofs.Common.{◌⊎◌, inl, inr, ℕ, zero, suc, ◌-◌, ◌<◌, ◌≤◌, ℤ, pos, ◌+ℤ◌, ◌*ℤ◌, ◌≤ℤ◌, List, [], ◌∷◌, ◌++◌, length, drop, ap, arith}
use lib.IntN.{negsuc}
use Rattle.std.proofs.lemmas.Int.{ints}
use Rattle.std.proofs.lemmas.Bool.{cases_lt}
use Rattle.std.proofs.Math.ListN.{get_or-eq_default}
use Rattle.std.proofs.lemmas.List.Elements.{All-head, All-tail, All-push, All-cons}
use Rattle.lay_units.specs.declared.length.Unit.{Unit}
use Rattle.lay_grid.specs.declared.heights.RowsIn.{RowsIn}
use Rattle.lay_grid.specs.Shares.{sum_of, width_at}
use Rattle.lay_grid.specs.Heights.{IsLowest, AreLowest, room_above}
use Rattle.lay_grid.specs.Within.{IsUpTo, AreUpTo, NeedUpTo, HeightsAreWithin}
use Rattle.lay_grid.proofs.LeastRooms.{enough_more}

pub product_up : (z : ℤ) (n : ℕ) → pos 0 ≤ℤ z → pos 0 ≤ℤ (z *ℤ pos n)
product_up (pos m) n up = omega (arith, ints)
product_up (negsuc m) n up = absurd (omega (arith, ints, up))

all_up : (most : ℕ) (xs : List Unit) → AreUpTo most xs → pos 0 ≤ℤ sum_of xs
all_up most [] fits = omega (arith, ints)
all_up most (x ∷ xs) fits =
    let h = all_up most xs (All-tail (λ (u : Unit). IsUpTo most u.0) x xs fits) in
    let a = (All-head (λ (u : Unit). IsUpTo most u.0) x xs fits).0 in
    omega (arith, ints, h, a)

sum_up : (most : ℕ) (xs : List Unit) (k : ℕ) → AreUpTo most xs → pos 0 ≤ℤ sum_of (drop k xs)
sum_up most xs zero fits = all_up most xs fits
sum_up most [] (suc k) fits = omega (arith, ints)
sum_up most (x ∷ xs) (suc k) fits = sum_up most xs k (All-tail (λ (u : Unit). IsUpTo most u.0) x xs fits)

at : (most : ℕ) (xs : List Unit) (i : ℕ) → AreUpTo most xs → IsUpTo most (width_at xs i)
at most xs i fits = from (cases_lt i (length xs))
  where
    none : Unit
    none = record { 0 = pos 0 }

    from : ((i < length xs) ⊎ (length xs ≤ i)) → IsUpTo most (width_at xs i)
    from (inl less) = fits i none less
    from (inr past) = let e = ap (λ (u : Unit). u.0) (get_or-eq_default xs none past) in (omega (arith, ints, e), omega (arith, ints, e))

lowest_up : (r : RowsIn) (most : ℕ) (above : List Unit) (height : ℤ) → NeedUpTo r most → AreUpTo most above → IsLowest r above height → IsUpTo most height
lowest_up r most above height need so low = (
  omega (arith, ints, own0, fit),
  low.least (pos most) record {
    own = own.1;
    cells = λ k cell at same.
        let a = sum_up most above cell.row so in let b = product_up r.spacing.0 (cell.span - 1) need.spacing in
        enough_more r.cells cell cell.baseline (pos most) (room_above r above cell.row cell.span +ℤ pos most) (omega (arith, ints, a, b))
        (need.cells k cell at);
    total = λ last. let a = all_up most above so in let t = need.total in omega (arith, ints, a, t);
  },
)
  where
    own : IsUpTo most (width_at r.own (length above))
    own = at most r.own (length above) need.own

    own0 : pos 0 ≤ℤ width_at r.own (length above)
    own0 = own.0

    fit : width_at r.own (length above) ≤ℤ height
    fit = low.fits.own

all_lowest : (r : RowsIn) (most : ℕ) (above heights : List Unit) → NeedUpTo r most → AreUpTo most above → AreLowest r above heights → AreUpTo most heights
all_lowest r most above [] need so low = λ i d less. absurd (omega (arith, less))
all_lowest r most above (h ∷ heights) need so low =
    let here = lowest_up r most above h.0 need so low.0 in
    let rest = all_lowest r most (above ++ h ∷ []) heights need (All-push (λ (u : Unit). IsUpTo most u.0) above h so here) low.1 in
    All-cons (λ (u : Unit). IsUpTo most u.0) h heights here rest

pub heights_are_within_lem : HeightsAreWithin
heights_are_within_lem r most heights need are = all_lowest r most [] heights need (λ i d less. absurd (omega (arith, less))) are.lowest
