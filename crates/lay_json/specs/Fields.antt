-- The fields of a run document: what is asked of a field's value, and its fault where the value isn't so.
-- On one field its absence is judged first (I3), then another JSON kind (I4), then a number that isn't
-- whole or isn't in its range (I9). The members of a list of numbers are judged as the field that holds the list: a
-- wrong kind anywhere in it comes before a number that is out of range.
use Rattle.std.specs.Prelude.{ℕ, suc, ◌≡◌, ◌≢◌, ◌&&◌, List, Bool, nat_le, is_some, is_none, Option, Some}
use Rattle.std.specs.Prelude.{None, option_map, option_and_then, ok_or, Result, Ok, Err, codes, if◌then◌else◌}
use Rattle.serde_json.specs.Data.{Data, Items, no_items, item, Members}
use Rattle.serde_json.specs.Find.{get, at, as_number, as_u64, as_str, as_array, as_object}
use Rattle.lay_json.specs.declared.fault.Field.{Field}
use Rattle.lay_json.specs.declared.fault.Field.TheVariants.{Run, Viewport, Face, Advance, Default, Ascent, Descent, XHeight, Normal}
use Rattle.lay_json.specs.declared.fault.Field.TheVariants.{Nodes, Editors, Id, Parent, Kind, Style, Colspan, Rowspan, Text, Natural, Do}
use Rattle.lay_json.specs.declared.fault.Field.TheVariants.{Node, Property, Value, Index, Edits, Sheet, Tag, Label, Classes, Check}
use Rattle.lay_json.specs.declared.fault.Field.TheVariants.{Report}
use Rattle.lay_json.specs.declared.fault.Spot.{Spot}
use Rattle.lay_json.specs.declared.fault.InputFault.{InputFault}
use Rattle.lay_json.specs.declared.fault.InputFault.TheVariants.{Missing, WrongKind, BadNumber, NoMemory}

-- the name of a field, as the run document writes it
abbrev pub field_name : Field → List ℕ
field_name Run = codes "run"
field_name Viewport = codes "viewport"
field_name Face = codes "face"
field_name Advance = codes "advance"
field_name Default = codes "default"
field_name Ascent = codes "ascent"
field_name Descent = codes "descent"
field_name XHeight = codes "xheight"
field_name Normal = codes "normal"
field_name Nodes = codes "nodes"
field_name Editors = codes "editors"
field_name Id = codes "id"
field_name Parent = codes "parent"
field_name Kind = codes "kind"
field_name Style = codes "style"
field_name Colspan = codes "colspan"
field_name Rowspan = codes "rowspan"
field_name Text = codes "text"
field_name Natural = codes "natural"
field_name Do = codes "do"
field_name Node = codes "node"
field_name Property = codes "property"
field_name Value = codes "value"
field_name Index = codes "index"
field_name Edits = codes "edits"
field_name Sheet = codes "sheet"
field_name Tag = codes "tag"
field_name Label = codes "label"
field_name Classes = codes "classes"
field_name Check = codes "check"
field_name Report = codes "report"

-- what the next part of a document gives, or the fault of the part before it
abbrev pub then_read : {A B E : Type 0} → Result A E → (A → Result B E) → Result B E
then_read (Ok a) next = next a
then_read (Err fault) next = Err fault

-- the same as what is read, by its meaning
abbrev pub map_read : {A B E : Type 0} → (A → B) → Result A E → Result B E
map_read f (Ok a) = Ok (f a)
map_read f (Err fault) = Err fault

-- an answer is what is read, or that memory ran out
abbrev pub Gives : {A : Type 0} → Result A InputFault → Result A InputFault → Type 0
Gives (Ok a) read = read ≡ Ok a
Gives (Err fault) read = fault ≢ NoMemory → read ≡ Err fault

-- an answer is that a value was changed to what is read, or that memory ran out
abbrev pub Changes : {A : Type 0} → Result (Unit {0}) InputFault → A → Result A InputFault → Type 0
Changes (Ok done) new read = read ≡ Ok new
Changes (Err fault) new read = fault ≢ NoMemory → read ≡ Err fault

-- the value of a field, where the object has it
abbrev pub value_in : Field → Data → Option Data
value_in f d = get (field_name f) d

-- the value of a field that must be there
abbrev pub required : Field → Spot → Data → Result Data InputFault
required f place d = ok_or (value_in f d) (Missing f place)

-- a value that must be an object, a list or a text
abbrev pub object_of : Field → Spot → Data → Result Members InputFault
object_of f place d = ok_or (as_object d) (WrongKind f place)

abbrev pub list_of : Field → Spot → Data → Result Items InputFault
list_of f place d = ok_or (as_array d) (WrongKind f place)

abbrev pub text_of : Field → Spot → Data → Result (List ℕ) InputFault
text_of f place d = ok_or (as_str d) (WrongKind f place)

abbrev pub count_of_items : Items → ℕ
count_of_items no_items = 0
count_of_items (item d ds) = suc (count_of_items ds)

-- whether a list has at most so many items
abbrev pub has_at_most : ℕ → Items → Bool
has_at_most most ds = nat_le (count_of_items ds) most

-- the whole number that a value is, where it is one from low to high
abbrev pub whole_within : ℕ → ℕ → Option Data → Option ℕ
whole_within low high d =
    option_and_then (λ n. if nat_le low n && nat_le n high then Some n else None) (option_and_then as_u64 (option_and_then as_number d))

-- a value that must be a whole number from low to high
abbrev pub number_of : ℕ → ℕ → Field → Spot → Data → Result ℕ InputFault
number_of low high f place d =
    if is_some (as_number d) then ok_or (whole_within low high (Some d)) (BadNumber f place) else Err (WrongKind f place)

-- a field that must be there, with such a number
abbrev pub required_number : ℕ → ℕ → Field → Spot → Data → Result ℕ InputFault
required_number low high f place d = then_read (required f place d) (number_of low high f place)

-- a field with such a number, and the number that stands for it where it is absent
abbrev pub number_or : ℕ → ℕ → ℕ → Field → Spot → Data → Result ℕ InputFault
number_or absent low high f place d = given_or (value_in f d)
  where
    given_or : Option Data → Result ℕ InputFault
    given_or None = Ok absent
    given_or (Some v) = number_of low high f place v

-- a field that must be there, with a text
abbrev pub required_text : Field → Spot → Data → Result (List ℕ) InputFault
required_text f place d = then_read (required f place d) (text_of f place)

abbrev pub has_number : Option Data → Bool
has_number d = is_some (option_and_then as_number d)

-- whether a value is a list of two numbers
abbrev pub is_pair : Data → Bool
is_pair d = has_number (at 0 d) && has_number (at 1 d) && is_none (at 2 d)

-- the two whole numbers of a list, where both are at least `low`, the first is at most `first` and the second
-- at most `second`
abbrev pub pair_within : ℕ → ℕ → ℕ → Data → Option (ℕ × ℕ)
pair_within low first second d =
    option_and_then (λ a. option_map (λ b. (a, b)) (whole_within low second (at 1 d))) (whole_within low first (at 0 d))

-- a width and a height: a value that must be a list of two whole numbers from 1 to 1,000,000, in px
abbrev pub sides_of : Field → Spot → Data → Result (ℕ × ℕ) InputFault
sides_of f place d =
    if is_pair d then ok_or (pair_within 1 1000000 1000000 d) (BadNumber f place) else Err (WrongKind f place)

-- a field that must be there, with a width and a height
abbrev pub required_sides : Field → Spot → Data → Result (ℕ × ℕ) InputFault
required_sides f place d = then_read (required f place d) (sides_of f place)
