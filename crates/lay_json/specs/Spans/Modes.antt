-- Where the lexer of the grammar of JSON stands after some bytes.
use Rattle.std.specs.Prelude.{ℕ, List, [], ◌∷◌, Bool, true, false}
use Rattle.json.specs.Lex.{Class, quote, backslash, operator, space, other, class, Mode, between, in_word, in_string, in_escape}

-- after a byte of this class
abbrev pub behind_byte : Mode → Class → Mode
behind_byte between quote = in_string
behind_byte between backslash = in_word
behind_byte between operator = between
behind_byte between space = between
behind_byte between other = in_word
behind_byte in_word quote = in_word
behind_byte in_word backslash = in_word
behind_byte in_word operator = between
behind_byte in_word space = between
behind_byte in_word other = in_word
behind_byte in_string quote = between
behind_byte in_string backslash = in_escape
behind_byte in_string operator = in_string
behind_byte in_string space = in_string
behind_byte in_string other = in_string
behind_byte in_escape c = in_string

-- after a text
abbrev pub behind : Mode → List ℕ → Mode
behind m [] = m
behind m (x ∷ xs) = behind (behind_byte m (class x)) xs

-- no string is open
abbrev pub is_closed : Mode → Bool
is_closed between = true
is_closed in_word = true
is_closed in_string = false
is_closed in_escape = false
