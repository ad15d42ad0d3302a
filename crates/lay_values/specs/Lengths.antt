-- Lengths, percentages and bare numbers (CSS 2.2, 4.3.1 to 4.3.3).
-- A number is followed by a unit, by `%` or by nothing. 1in is 96px, 2.54cm, 25.4mm and 72pt, and 1pc is
-- 12pt, so 1cm is 9600 / 254 px. A length is rounded down to 1/64 px once, and held within 2^31 of them;
-- an em or a number is rounded down to thousandths; a percentage is rounded down to hundredths, and held
-- within 2^30 of them. `-0.01px` is -0.64 units, and so -1.
use Rattle.std.specs.Prelude.{ℕ, ◌*◌, ◌^◌, ◌==◌, ℤ, pos, neg_ℤ, List, [], ◌∷◌, codes}
use Rattle.std.specs.Prelude.{length, filter, find, Option, Some, None, if◌then◌else◌}
use Rattle.std.specs.Int.{int_min, int_max}
use Rattle.std.specs.Str.{str_eq_ignore_ascii_case}
use Rattle.lay_units.specs.Units.{clamp_of}
use Rattle.lay_style.specs.declared.property.Property.{Property}
use Rattle.lay_style.specs.declared.property.Property.TheVariants.{ZIndex, LineHeight}
use Rattle.lay_style.specs.declared.property.Given.{Given}
use Rattle.lay_style.specs.declared.property.Given.TheVariants as given
use Rattle.lay_values.specs.declared.numbers.Decimal.{Decimal}
use Rattle.lay_values.specs.declared.lengths.Suffix.{Suffix}
use Rattle.lay_values.specs.declared.lengths.Suffix.TheVariants.{Nothing, Percent, Em, Px, In, Cm, Mm, Pt, Pc}
use Rattle.lay_values.specs.Numbers.{scaled}

-- what stands behind a number, in any case
abbrev pub suffix_name : Suffix → List ℕ
suffix_name Nothing = codes ""
suffix_name Percent = codes "%"
suffix_name Em = codes "em"
suffix_name Px = codes "px"
suffix_name In = codes "in"
suffix_name Cm = codes "cm"
suffix_name Mm = codes "mm"
suffix_name Pt = codes "pt"
suffix_name Pc = codes "pc"

unfoldable pub all_suffixes : List Suffix
all_suffixes = Nothing ∷ Percent ∷ Em ∷ Px ∷ In ∷ Cm ∷ Mm ∷ Pt ∷ Pc ∷ []

-- those of this length
abbrev pub of_length : ℕ → List Suffix
of_length n = filter (λ s. length (suffix_name s) == n) all_suffixes

abbrev pub suffix_of : List ℕ → Option Suffix
suffix_of text = find (λ s. str_eq_ignore_ascii_case (suffix_name s) text) all_suffixes

-- so many times n / m px, as a length
abbrev pub length_value : ℕ → ℕ → Decimal → Given
length_value n m d = given.Length (record { 0 = clamp_of (scaled (64 * n) m d) })

abbrev pub thousandths : Decimal → ℤ
thousandths d = scaled 1000 1 d

-- a percentage in hundredths
abbrev pub hundredths : Decimal → ℤ
hundredths d = int_max (neg_ℤ (pos (2 ^ 30))) (int_min (scaled 100 1 d) (pos (2 ^ 30)))

-- a number with nothing behind it: `z-index` takes whole ones, which have no point, and `line-height` all;
-- elsewhere 0 is a length
abbrev pub bare_value : Property → Decimal → Option Given
bare_value ZIndex d = if d.places == 0 then Some (given.Number (thousandths d)) else None
bare_value LineHeight d = Some (given.Number (thousandths d))
bare_value _ d = if d.mantissa == 0 then Some (given.Length (record { 0 = pos 0 })) else None

-- the value of a number and what stands behind it
abbrev pub value_with : Property → Decimal → Suffix → Option Given
value_with p d Nothing = bare_value p d
value_with p d Percent = Some (given.Percent (record { 0 = hundredths d }))
value_with p d Em = Some (given.Em (thousandths d))
value_with p d Px = Some (length_value 1 1 d)
value_with p d In = Some (length_value 96 1 d)
value_with p d Cm = Some (length_value 9600 254 d)
value_with p d Mm = Some (length_value 960 254 d)
value_with p d Pt = Some (length_value 96 72 d)
value_with p d Pc = Some (length_value (12 * 96) 72 d)
