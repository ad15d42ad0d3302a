-- A number in thousandths is within 10^12 of 0.
use Rattle.std.proofs.Common.{◌≡◌, ℕ, ◌+◌, ◌*◌, ◌/◌, ◌^◌, ◌<◌, zero, suc, arith, lit<, Bool, true, false, ℤ, pos, neg_ℤ, ◌≤ℤ◌, w64, FitsSigned, to_z, of_z}
use Rattle.std.specs.Int.{w128}
use Rattle.std.proofs.Math.Nat.{one-le-pow, div-lt_iff_lt-mul}
use Rattle.std.proofs.lemmas.Nat.{pow-add}
use Rattle.std.proofs.lemmas.Int.{ints, to_z-of_z}
use Rattle.lay_units.specs.Units.{floor_div}
use Rattle.lay_values.specs.declared.numbers.Decimal.{Decimal}
use Rattle.lay_values.specs.Numbers.{IsShort, signed, scaled}

-- at most k from 0
pub record IsWithin (k : ℕ) (z : ℤ) : Type 0 where
  pub lower : neg_ℤ (pos k) ≤ℤ z
  pub upper : z ≤ℤ pos k

quotient-below : (n k q : ℕ) → 0 < q → n < k * q → n / q < k
quotient-below n k q positive below = (div-lt_iff_lt-mul positive).1 below

floor-within : (negative : Bool) (n k q : ℕ) → 0 < q → n < k * q → IsWithin k (floor_div (signed negative n) q)
floor-within false n k q positive below =
    let h = quotient-below n k q positive below in
    record { lower = omega (arith, ints); upper = omega (arith, ints, h) }
floor-within true zero k q positive below =
    let h = quotient-below 0 k q positive below in
    record { lower = omega (arith, ints); upper = omega (arith, ints, h) }
floor-within true (suc n) k q positive below =
    let h = quotient-below n k q positive (omega (arith, below)) in
    record { lower = omega (arith, ints, h); upper = omega (arith, ints) }

pub thousandths-within : (d : Decimal) → IsShort d → IsWithin (10 ^ 12) (scaled 1000 1 d)
thousandths-within d short =
    let power : 10 ^ (9 + d.places) ≡ 10 ^ 9 * 10 ^ d.places = pow-add 10 9 d.places in
    floor-within d.negative (1000 * d.mantissa) (10 ^ 12) (1 * 10 ^ d.places) (omega (arith, one-le-pow d.places 10 (lit< tt))) (omega (arith, power, short.small))

pub same-wide : (z : ℤ) → IsWithin (10 ^ 12) z → to_z w128 (of_z w128 z) ≡ z
same-wide z within = to_z-of_z w128 z (omega (arith, ints, within.lower, within.upper))

pub same-narrow : (z : ℤ) → IsWithin (10 ^ 12) z → to_z w64 (of_z w64 (to_z w128 (of_z w128 z))) ≡ z
same-narrow z within = rw (same-wide z within) (to_z-of_z w64 z (omega (arith, ints, within.lower, within.upper)))

pub fits-narrow : (z : ℤ) → IsWithin (10 ^ 12) z → FitsSigned w64 (to_z w128 (of_z w128 z))
fits-narrow z within = rw (same-wide z within) (omega (arith, ints, within.lower, within.upper))
