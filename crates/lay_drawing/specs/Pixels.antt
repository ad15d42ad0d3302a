-- Lengths in px, where one has 64 units: whole px, and for what is left a point and the digits of the fraction, which
-- is written exactly, as 1/64 = 0.015625. A minus stands in front of negative ones.
use Rattle.std.specs.Prelude.{ℕ, zero, suc, ◌+◌, ◌*◌, ◌/◌, ◌%◌, ◌^◌, ◌<◌, ◌≡◌, ◌==◌, ℤ}
use Rattle.std.specs.Prelude.{pos, negsuc, List, [], ◌∷◌, ◌++◌, length, if◌then◌else◌}
use Rattle.std.specs.Fmt.{decimal}
use Rattle.std.specs.Str.Parse.{digits_value}

-- the first digits of so many 64th, at most `most` of them: long division by 64
unfoldable pub fraction_digits : ℕ → ℕ → List ℕ
fraction_digits zero rest = []
fraction_digits (suc most) rest = if rest == 0 then [] else (48 + rest * 10 / 64) ∷ fraction_digits most (rest * 10 % 64)

-- the point and the digits, of which there are six at most
abbrev pub fraction_text : ℕ → List ℕ
fraction_text rest = if rest == 0 then [] else 46 ∷ fraction_digits 6 rest

abbrev pub magnitude_text : ℕ → List ℕ
magnitude_text units = decimal (units / 64) ++ fraction_text (units % 64)

abbrev pub px_text : ℤ → List ℕ
px_text (pos units) = magnitude_text units
px_text (negsuc units) = 45 ∷ magnitude_text (suc units)

-- nothing is rounded: the digits behind the point are as many tenths, hundredths and so on as there are 64ths
abbrev pub FractionsAreExact : Type 0
FractionsAreExact = (rest : ℕ) → rest < 64 → digits_value 10 (fraction_digits 6 rest) * 64 ≡ rest * 10 ^ length (fraction_digits 6 rest)
