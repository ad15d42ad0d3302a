-- Numbers as CSS 2.2 writes them (4.3.1).
-- A number is an optional sign, then digits, or digits that may be absent, a point and digits: at most 9
-- digits stand before the point and at most 18 after it. `-.5` is one, and `5.`, `+-5` and `1e2` aren't.
use Rattle.std.specs.Prelude.{ℕ, ◌+◌, ◌-◌, ◌*◌, ◌^◌, ◌<◌, ◌≤◌, ◌==◌, ◌&&◌, ℤ, pos, neg_ℤ, List, [], ◌∷◌, ◌++◌}
use Rattle.std.specs.Prelude.{length, Bool, true, false, nat_le, Option, Some, None, option_map, if◌then◌else◌}
use Rattle.std.specs.List.{list_all}
use Rattle.lay_units.specs.Units.{floor_div}
use Rattle.lay_values.specs.declared.numbers.Decimal.{Decimal}

-- a digit, by its code
abbrev pub is_digit : ℕ → Bool
is_digit b = nat_le 48 b && nat_le b 57

-- the bytes that a text begins with while each is of a kind, and what stands behind them
abbrev pub leading : (ℕ → Bool) → List ℕ → List ℕ
leading kind [] = []
leading kind (b ∷ bs) = if kind b then b ∷ leading kind bs else []

abbrev pub behind : (ℕ → Bool) → List ℕ → List ℕ
behind kind [] = []
behind kind (b ∷ bs) = if kind b then behind kind bs else b ∷ bs

-- the number that digits spell, when v stands before them
abbrev pub value_after : ℕ → List ℕ → ℕ
value_after v [] = v
value_after v (b ∷ bs) = value_after (10 * v + (b - 48)) bs

-- digits, and behind them nothing, or a point and digits
abbrev pub decimal_of : List ℕ → List ℕ → Option Decimal
decimal_of whole [] =
    if nat_le 1 (length whole) && nat_le (length whole) 9
    then Some (record { negative = false; mantissa = value_after 0 whole; places = 0 }) else None
decimal_of whole (b ∷ fraction) =
    if (b == 46) && nat_le (length whole) 9 && list_all is_digit fraction && nat_le 1 (length fraction) && nat_le (length fraction) 18
    then Some (record { negative = false; mantissa = value_after 0 (whole ++ fraction); places = length fraction }) else None

abbrev pub unsigned_of : List ℕ → Option Decimal
unsigned_of text = decimal_of (leading is_digit text) (behind is_digit text)

abbrev pub negated : Decimal → Decimal
negated d = record d { negative = true }

-- the number that a text is
abbrev pub number_of : List ℕ → Option Decimal
number_of [] = None
number_of (b ∷ bs) =
    if b == 43 then unsigned_of bs
    else (if b == 45 then option_map negated (unsigned_of bs) else unsigned_of (b ∷ bs))

-- how few digits a number has: below 10^9 in absolute value, and at most 18 digits behind the point
pub record IsShort (d : Decimal) : Type 0 where
  pub small : d.mantissa < 10 ^ (9 + d.places)
  pub few : d.places ≤ 18

abbrev pub signed : Bool → ℕ → ℤ
signed negative n = if negative then neg_ℤ (pos n) else pos n

-- a number times n / m, rounded down once
abbrev pub scaled : ℕ → ℕ → Decimal → ℤ
scaled n m d = floor_div (signed d.negative (n * d.mantissa)) (m * 10 ^ d.places)
