-- Bounds of products and of parts.
use Rattle.std.proofs.Common.{◌≡◌, ◌⊎◌, inl, inr, ℕ, ◌+◌, ◌-◌, ◌*◌, ◌^◌, ◌<◌, ◌≤◌, ◌/◌, ◌%◌, ℤ, pos, neg_ℤ, ◌*ℤ◌, ◌≤ℤ◌, refl, ap, arith}
use lib.IntN.{negsuc, nat_abs}
use Rattle.std.proofs.lemmas.Bool.{cases_lt, cond_below, cond_above}
use Rattle.std.proofs.lemmas.Int.{ints, clamps}
use Rattle.std.specs.Int.{int_max}
use Rattle.std.proofs.Math.Nat.{mul-le-mul_left, div-le_of_le-mul, div-add-mod}
use Rattle.lay_units.specs.Units.{IsPosition, IsWithinPower}
use Rattle.lay_grid.specs.Columns.{from_zero, part_of}

within : (z : ℤ) (n : ℕ) → IsPosition z → n ≤ 2 ^ 33 → IsWithinPower 95 (z *ℤ pos n)
within (pos m) n fits few = let h = mul-le-mul_left m few in let a = fits.1 in (omega (arith, ints), omega (arith, ints, h, a))
within (negsuc m) n fits few = let h = mul-le-mul_left (m + 1) few in let a = fits.0 in (omega (arith, ints, h, a), omega (arith, ints))

pub product_within : (z p : ℤ) (n : ℕ) → IsPosition z → n ≤ 2 ^ 33 → p ≡ (z *ℤ pos n) → IsWithinPower 95 p
product_within z p n fits few e = let h = within z n fits few in let a = h.0 in let b = h.1 in (omega (arith, ints, e, a), omega (arith, ints, e, b))

-- a product with a length that is at least -(2^62 - 1)
pub product_least : (z : ℤ) (n : ℕ) → IsPosition z → neg_ℤ (pos ((2 ^ 62 - 1) * n)) ≤ℤ (z *ℤ pos n)
product_least (pos m) n fits = omega (arith, ints)
product_least (negsuc m) n fits = let a = fits.0 in let less : m + 1 ≤ 2 ^ 62 - 1 = omega (arith, ints, a) in let h = mul-le-mul_left n less in omega
    (arith, ints, h)

-- a number, 0 where it is negative
pub from_max : (z m : ℤ) → m ≡ int_max z (pos 0) → nat_abs m ≡ from_zero z
from_max (pos n) m e = let f : m ≡ pos n = omega (arith, ints, clamps, e) in ap nat_abs f
from_max (negsuc n) m e = let f : m ≡ pos 0 = omega (arith, ints, clamps, e) in ap nat_abs f

pub from_zero_below : (z : ℤ) (n : ℕ) → z ≤ℤ pos n → from_zero z ≤ n
from_zero_below (pos m) n le = omega (arith, ints, le)
from_zero_below (negsuc m) n le = omega (arith)

-- the parts of what is at most so much for each
pub part_below : (width n : ℕ) → width ≤ (2 ^ 62 - 1) * n → width / n ≤ 2 ^ 62 - 1
part_below width n le = div-le_of_le-mul n (omega (arith, le))

pub greater_part_below : (width n k : ℕ) → width ≤ (2 ^ 62 - 1) * n → k < width % n → width / n + 1 ≤ 2 ^ 62 - 1
greater_part_below width n k le less = from (cases_lt (width / n) (2 ^ 62 - 1))
  where
    from : ((width / n < 2 ^ 62 - 1) ⊎ (2 ^ 62 - 1 ≤ width / n)) → width / n + 1 ≤ 2 ^ 62 - 1
    from (inl below) = omega (arith, below)
    from (inr above) = let h = mul-le-mul_left n above in let e = div-add-mod width n in absurd (omega (arith, h, e, le, less))

pub greater_part : (width n k : ℕ) → k < width % n → width / n + 1 ≡ part_of width n k
greater_part width n k less = ap (λ (m : ℕ). width / n + m) (cond_below {X = ℕ} k (width % n) 1 0 less)

pub lesser_part : (width n k : ℕ) → width % n ≤ k → width / n ≡ part_of width n k
lesser_part width n k not = let e = cond_above {X = ℕ} k (width % n) 1 0 0 not refl in omega (arith, e)
