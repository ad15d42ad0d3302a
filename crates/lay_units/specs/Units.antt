-- Lengths in units of 1/64 px and percentages in hundredths of a percent (CSS 2.2, 4.3.2 and 4.3.3).
-- A quotient is rounded toward minus infinity. A used length is held within 2^31 units of 0, and one
-- that can't be negative, from 0 to 2^31.
use Rattle.std.specs.Prelude.{ℕ, ◌^◌, ℤ, pos, neg_ℤ, ◌+ℤ◌, ◌*ℤ◌, ◌≤ℤ◌, ◌<ℤ◌}
use Rattle.std.specs.Int.{int_min, int_max, int_div_euclid}

-- the greatest absolute value of a used length
abbrev pub limit : ℤ
limit = pos 2147483648

abbrev pub clamp_of : ℤ → ℤ
clamp_of v = int_max (neg_ℤ limit) (int_min v limit)

abbrev pub clamp_size_of : ℤ → ℤ
clamp_size_of v = int_max (pos 0) (int_min v limit)

-- the greatest whole number that is at most v / d, for a d from 1 on
abbrev pub floor_div : ℤ → ℕ → ℤ
floor_div v d = int_div_euclid v (pos d)

-- q is the floor of v / d
pub record IsFloor (v : ℤ) (d : ℕ) (q : ℤ) : Type 0 where
  pub below : (q *ℤ pos d) ≤ℤ v
  pub above : v <ℤ ((q *ℤ pos d) +ℤ pos d)

-- what a percentage of a base length is used as
abbrev pub percentage_of : ℤ → ℤ → ℤ
percentage_of hundredths base = clamp_of (floor_div (hundredths *ℤ base) 10000)

abbrev pub half_of : ℤ → ℤ
half_of v = floor_div v 2

-- a used length: at most 2^31 units from 0
abbrev pub IsUsed : ℤ → Type 0
IsUsed v = (neg_ℤ limit ≤ℤ v) × (v ≤ℤ limit)

-- a used length that isn't negative
abbrev pub IsUsedSize : ℤ → Type 0
IsUsedSize v = (pos 0 ≤ℤ v) × (v ≤ℤ limit)

-- a length or a position that calls are given: below 2^62 in absolute value
abbrev pub IsPosition : ℤ → Type 0
IsPosition v = (neg_ℤ (pos (2 ^ 62)) <ℤ v) × (v <ℤ pos (2 ^ 62))

-- a position that isn't negative
abbrev pub IsSize : ℤ → Type 0
IsSize v = (pos 0 ≤ℤ v) × (v <ℤ pos (2 ^ 62))

-- a sum or a difference of two positions: below 2^63 in absolute value
abbrev pub IsSum : ℤ → Type 0
IsSum v = (neg_ℤ (pos (2 ^ 63)) <ℤ v) × (v <ℤ pos (2 ^ 63))

-- the width or the height of a border box: a used size and two insets
abbrev pub IsBoxSize : ℤ → Type 0
IsBoxSize v = (pos 0 ≤ℤ v) × (v ≤ℤ pos 10737418240)

-- at most 2^60 units from 0
abbrev pub IsNear : ℤ → Type 0
IsNear v = (neg_ℤ (pos 1152921504606846976) ≤ℤ v) × (v ≤ℤ pos 1152921504606846976)

-- at most 2^n in absolute value
abbrev pub IsWithinPower : ℕ → ℤ → Type 0
IsWithinPower n v = (neg_ℤ (pos (2 ^ n)) ≤ℤ v) × (v ≤ℤ pos (2 ^ n))
