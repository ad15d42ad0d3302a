-- The text of a property's value (CSS 2.2, 4.1.8 and 6.1.1): which declaration a property's name and a
-- text give together.
-- White space at both ends is dropped. A text that begins with a letter is a keyword; any other is a number
-- with what stands behind it, or, for `border-spacing`, one or two of them parted by white space. The value
-- must then be one of the property's. So each text has at most one meaning for a property.
use Rattle.std.specs.Prelude.{ℕ, ◌-◌, ◌==◌, ◌||◌, List, [], ◌∷◌, length, take, drop, Bool, false, not, Option}
use Rattle.std.specs.Prelude.{Some, None, option_map, option_and_then, ok_or, Result, Err, if◌then◌else◌}
use Rattle.std.specs.List.{prefix_len, suffix_len}
use Rattle.std.specs.Char.{is_ascii_alphabetic, is_ascii_whitespace}
use Rattle.lay_style.specs.declared.property.Property.{Property}
use Rattle.lay_style.specs.declared.property.Property.TheVariants.{BorderSpacing}
use Rattle.lay_style.specs.declared.property.Given.{Given}
use Rattle.lay_style.specs.declared.property.Given.TheVariants.{Length, Em, Pair}
use Rattle.lay_style.specs.declared.property.OneLength.{OneLength}
use Rattle.lay_style.specs.declared.property.OneLength.TheVariants.{Length as one_length, Em as one_em}
use Rattle.lay_style.specs.Values.{Declaration, declaration_of}
use Rattle.lay_values.specs.declared.reading.ValueFault.{ValueFault}
use Rattle.lay_values.specs.declared.reading.ValueFault.TheVariants.{BadProperty, BadValue}
use Rattle.lay_values.specs.Names.{property_of}
use Rattle.lay_values.specs.Words.{keyword_of}
use Rattle.lay_values.specs.Numbers.{is_digit, leading, behind, number_of}
use Rattle.lay_values.specs.Lengths.{suffix_of, value_with}

-- a text without the white space (space, tab, LF, CR, FF) at its front, and at both its ends
abbrev pub without_front : List ℕ → List ℕ
without_front text = drop (prefix_len is_ascii_whitespace text) text

abbrev pub without_end : List ℕ → List ℕ
without_end text = take (length text - suffix_len is_ascii_whitespace text) text

abbrev pub trimmed : List ℕ → List ℕ
trimmed text = without_end (without_front text)

-- what a number is written with: digits, signs, a point
abbrev pub is_of_number : ℕ → Bool
is_of_number b = is_digit b || (b == 43) || (b == 45) || (b == 46)

-- a number, and then a unit, `%` or nothing
abbrev pub measure_of : Property → List ℕ → Option Given
measure_of p text =
    option_and_then (λ d. option_and_then (value_with p d) (suffix_of (behind is_of_number text))) (number_of (leading is_of_number text))

abbrev pub one_length_of : Given → Option OneLength
one_length_of (Length u) = Some (one_length u)
one_length_of (Em e) = Some (one_em e)
one_length_of _ = None

-- one of two lengths of `border-spacing`
abbrev pub one_spacing : List ℕ → Option OneLength
one_spacing text = option_and_then one_length_of (measure_of BorderSpacing text)

-- one length, or the second one too
abbrev pub spacings_of : List ℕ → List ℕ → Option Given
spacings_of first [] = measure_of BorderSpacing first
spacings_of first (b ∷ second) = option_and_then (λ x. option_map (Pair x) (one_spacing (b ∷ second))) (one_spacing first)

abbrev pub is_of_word : ℕ → Bool
is_of_word b = not (is_ascii_whitespace b)

abbrev pub numeric_of : Property → List ℕ → Option Given
numeric_of BorderSpacing text = spacings_of (leading is_of_word text) (without_front (behind is_of_word text))
numeric_of p text = measure_of p text

abbrev pub begins_with_letter : List ℕ → Bool
begins_with_letter [] = false
begins_with_letter (b ∷ bs) = is_ascii_alphabetic b

-- the value that a text is, for a property
abbrev pub value_of : Property → List ℕ → Option Given
value_of p text = if begins_with_letter text then keyword_of text else numeric_of p text

abbrev pub declaration_from : Property → List ℕ → Option Declaration
declaration_from p text = option_and_then (declaration_of p) (value_of p (trimmed text))

abbrev pub declared_for : Option Property → List ℕ → Result Declaration ValueFault
declared_for None text = Err BadProperty
declared_for (Some p) text = ok_or (declaration_from p text) BadValue

-- the declaration that a name and a text give; `BadProperty` where the name is no property's, and else
-- `BadValue` where the text is none of its values
abbrev pub read_declaration : List ℕ → List ℕ → Result Declaration ValueFault
read_declaration name text = declared_for (property_of name) text
