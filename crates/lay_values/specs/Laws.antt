-- What the definitions of readings must meet.
use Rattle.std.specs.Prelude.{ℕ, ◌≡◌, ◌++◌, List, map, Some, Err}
use Rattle.std.specs.Char.{to_ascii_lowercase}
use Rattle.lay_style.specs.declared.property.Property.{Property}
use Rattle.lay_style.specs.declared.property.Word.{Word}
use Rattle.lay_values.specs.declared.numbers.Decimal.{Decimal}
use Rattle.lay_values.specs.declared.lengths.Suffix.{Suffix}
use Rattle.lay_values.specs.declared.reading.ValueFault.TheVariants.{BadProperty}
use Rattle.lay_values.specs.Names.{name_of, property_of}
use Rattle.lay_values.specs.Words.{word_name, word_of}
use Rattle.lay_values.specs.Numbers.{number_of}
use Rattle.lay_values.specs.Lengths.{suffix_name, value_with}
use Rattle.lay_values.specs.Reading.{measure_of, read_declaration}

-- each property is found by its name, and by nothing else
abbrev pub OneName : Type 0
OneName =
    ((p : Property) → property_of (name_of p) ≡ Some p) × ((name : List ℕ) (p : Property) → property_of name ≡ Some p → name_of p ≡ name)

-- each keyword is read as itself, and only from texts that differ from it in the case of letters alone
abbrev pub OneWord : Type 0
OneWord =
    ((w : Word) → word_of (word_name w) ≡ Some w)
    × ((text : List ℕ) (w : Word) → word_of text ≡ Some w → map to_ascii_lowercase (word_name w) ≡ map to_ascii_lowercase text)

-- the name is at fault exactly where no property has it, whatever the text
abbrev pub NameFault : Type 0
NameFault = ((name text : List ℕ) → ((p : Property) → name_of p ≡ name → ⊥) → read_declaration name text ≡ Err BadProperty)
    × ((name text : List ℕ) (p : Property) → name_of p ≡ name → read_declaration name text ≡ Err BadProperty → ⊥)

-- a number and a suffix, with nothing between, are read as just that
abbrev pub OneMeasure : Type 0
OneMeasure = (p : Property) (text : List ℕ) (d : Decimal) (s : Suffix) → number_of text ≡ Some d
    → measure_of p (text ++ suffix_name s) ≡ value_with p d s
