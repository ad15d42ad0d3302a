-- What is read of tokens, a value after the other.
use Rattle.std.specs.Prelude.{◌≡◌, ℕ, List, [], ◌∷◌, ◌++◌, true, false, Some}
use Rattle.json.specs.Token.{Token, key}
use Rattle.json.specs.Word.{ends_word}
use Rattle.json.specs.Lex.{between, lex, Place, after_value, begins_colon, may_begin, may_close, punctuate}
use Rattle.json.specs.Json.{value}
use Rattle.serde_json.specs.Data.{Data, array, Items, no_items, item, Members, put}
use Rattle.serde_json.specs.Read.{of_json, converted}
use Rattle.lay_json.specs.Spans.Scans.{place_of}
use Rattle.lay_json.specs.declared.spans.cursor.Place.{Place as ReaderPlace}

-- the tokens of a text from a place on
abbrev pub tokens_at : ReaderPlace → List ℕ → List Token
tokens_at place text = punctuate (place_of place) (lex between text)

-- the first of these tokens say these items one after the other, nested at most so deep, and the others follow
abbrev pub ReadsItems : ℕ → List Token → Items → List Token → Type 0
ReadsItems depth ts no_items rest = ts ≡ rest
ReadsItems depth ts (item d ds) rest = (mid : List Token) × (converted of_json (value depth ts) ≡ Some (d, mid)) × ReadsItems depth mid ds rest

-- the first of these tokens say these members one after the other, and the others follow
abbrev pub ReadsMembers : ℕ → List Token → List (List ℕ × Data) → List Token → Type 0
ReadsMembers depth ts [] rest = ts ≡ rest
ReadsMembers depth ts (m ∷ ms) rest =
    (next mid : List Token) × (ts ≡ key m.0 ∷ next) × (converted of_json (value depth next) ≡ Some (m.1, mid)) × ReadsMembers depth mid ms rest

-- members with these put in order: the last of equal names stays
abbrev pub put_all : List (List ℕ × Data) → Members → Members
put_all [] found = found
put_all (m ∷ ms) found = put_all ms (put m.0 m.1 found)

-- some items and then others
abbrev pub items_then : Items → Items → Items
items_then no_items es = es
items_then (item d ds) es = item d (items_then ds es)

-- a text between three brackets
abbrev pub wrapped : List ℕ → List ℕ
wrapped own = (91 ∷ 91 ∷ 91 ∷ []) ++ own ++ (93 ∷ 93 ∷ 93 ∷ [])

-- a list alone in a list alone in a list
abbrev pub three_deep : Items → Data
three_deep ds = array (item (array (item (array ds) no_items)) no_items)

-- A text that says these items, which stand in it with commas between them: so they are read where it stands among others, after which
-- an operator, a space or the end comes, and no colon next.
abbrev pub StandAs : ℕ → List ℕ → Items → Type 0
StandAs depth own ds =
    (rest : List ℕ) (p : Place) → ends_word rest ≡ true → begins_colon (lex between rest) ≡ false → may_begin p ≡ true
    → ReadsItems depth (punctuate p (lex between (own ++ rest))) ds (punctuate after_value (lex between rest))

-- this byte and this text come next where a value may begin, and where a bracket may be closed
abbrev pub Opens : List Token → ℕ → List ℕ → Type 0
Opens ts byte rest = (p : Place) × (may_begin p ≡ true) × (ts ≡ punctuate p (lex between (byte ∷ rest)))

abbrev pub Closes : List Token → ℕ → List ℕ → Type 0
Closes ts byte rest = (p : Place) × (may_close p ≡ true) × (ts ≡ punctuate p (lex between (byte ∷ rest)))

-- a text that ends the value before it, where no key can end
abbrev pub EndsValue : List ℕ → Type 0
EndsValue text = (ends_word text ≡ true) × (begins_colon (lex between text) ≡ false)
