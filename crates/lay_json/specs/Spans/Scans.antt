-- The scan's own names, and the reader's places.
use Rattle.json.specs.Lex.{Class as SpecClass, quote, backslash, operator, space, other}
use Rattle.json.specs.Lex.{Mode as SpecMode, between, in_word, in_string, in_escape}
use Rattle.json.specs.Lex.{Place as SpecPlace, fresh, after_value, after_comma}
use Rattle.lay_json.specs.declared.spans.class.Class.{Class}
use Rattle.lay_json.specs.declared.spans.class.Class.TheVariants.{Quote, Backslash, Operator, Space, Other}
use Rattle.lay_json.specs.declared.spans.class.Mode.{Mode}
use Rattle.lay_json.specs.declared.spans.class.Mode.TheVariants.{Between, InWord, InString, InEscape}
use Rattle.lay_json.specs.declared.spans.cursor.Place.{Place}
use Rattle.lay_json.specs.declared.spans.cursor.Place.TheVariants.{Fresh, AfterValue, AfterComma}

abbrev pub class_of : Class → SpecClass
class_of Quote = quote
class_of Backslash = backslash
class_of Operator = operator
class_of Space = space
class_of Other = other

abbrev pub mode_of : Mode → SpecMode
mode_of Between = between
mode_of InWord = in_word
mode_of InString = in_string
mode_of InEscape = in_escape

abbrev pub place_of : Place → SpecPlace
place_of Fresh = fresh
place_of AfterValue = after_value
place_of AfterComma = after_comma
