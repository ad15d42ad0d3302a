-- Laws of values that are read one after the other.
use Rattle.std.specs.Prelude.{◌≡◌, ◌≤◌, ℕ, List, [], ◌∷◌, ◌++◌, Option, Some, None}
use Rattle.json.specs.Token.{Token, begin_array, end_array, begin_object, end_object}
use Rattle.json.specs.Lex.{tokens}
use Rattle.json.specs.Json.{value}
use Rattle.serde_json.specs.Data.{Data, array, object, Items, no_members}
use Rattle.serde_json.specs.Find.{get_member}
use Rattle.serde_json.specs.Read.{of_json, converted, read}
use Rattle.lay_json.specs.Spans.Readings.{ReadsItems, ReadsMembers, put_all}

-- items that are read one after the other, and a bracket that closes, are a list
abbrev pub ListsAreRead : Type 0
ListsAreRead =
    (most : ℕ) (ts : List Token) (ds : Items) (rest : List Token) → 125 ≤ most → ReadsItems 124 ts ds (end_array ∷ rest)
    → converted of_json (value most (begin_array ∷ ts)) ≡ Some (array ds, rest)

-- members that are read one after the other, and a brace that closes, are the object of a text after which nothing follows
abbrev pub ObjectsAreRead : Type 0
ObjectsAreRead =
    (text : List ℕ) (ts : List Token) (ms : List (List ℕ × Data)) → tokens text ≡ begin_object ∷ ts → ReadsMembers 126 ts ms (end_object ∷ [])
    → read text ≡ Some (object (put_all ms no_members))

-- what is found of the first that is, or else of the second
abbrev pub or_else : Option Data → Option Data → Option Data
or_else None o = o
or_else (Some d) o = Some d

-- members that are put later are found first
abbrev pub LastNamesStay : Type 0
LastNamesStay =
    (name : List ℕ) (ms ns : List (List ℕ × Data))
    → get_member name (put_all (ms ++ ns) no_members) ≡ or_else (get_member name (put_all ns no_members)) (get_member name (put_all ms no_members))
