-- The declarations of a node: a map from property to value, kept as a list in which no property stands
-- twice.
use Rattle.std.specs.Prelude.{ℕ, ◌≡◌, ◌<◌, List, [], ◌∷◌, length, map, slice_index, Option, Some, None, if◌then◌else◌}
use Rattle.lay_style.specs.declared.property.Property.{Property}
use Rattle.lay_style.specs.declared.property.Given.{Given}
use Rattle.lay_style.specs.Values.{Declaration}
use Rattle.lay_style.specs.PropertyNumbers.{number_of, is_same_property}

abbrev pub properties_of : List Declaration → List ℕ
properties_of ds = map (λ d. number_of d.property) ds

-- no property stands twice
abbrev pub AreDistinct : List Declaration → Type 0
AreDistinct ds = (j k : ℕ) → j < k → k < length ds → slice_index (properties_of ds) j ≡ slice_index (properties_of ds) k → ⊥

-- the value that is declared for a property
abbrev pub declared_value : Property → List Declaration → Option Given
declared_value p [] = None
declared_value p (d ∷ ds) = if is_same_property p d.property then Some d.value else declared_value p ds

-- the declarations with this one in place of an earlier one of its property, or after the others
abbrev pub with_declaration : Declaration → List Declaration → List Declaration
with_declaration d [] = d ∷ []
with_declaration d (e ∷ es) = if is_same_property d.property e.property then d ∷ es else e ∷ with_declaration d es

-- the declarations without that of a property, where it is declared
abbrev pub without_declaration : Property → List Declaration → List Declaration
without_declaration p [] = []
without_declaration p (d ∷ ds) = if is_same_property p d.property then ds else d ∷ without_declaration p ds

-- what is set is declared afterwards, and every other property is declared as before
abbrev pub SetsOne : Type 0
SetsOne = (p : Property) (d : Declaration) (ds : List Declaration) →
    declared_value p (with_declaration d ds) ≡ (if is_same_property p d.property then Some d.value else declared_value p ds)

-- what is taken away isn't declared afterwards, and every other property is declared as before
abbrev pub ClearsOne : Type 0
ClearsOne = (p q : Property) (ds : List Declaration) → AreDistinct ds →
    declared_value p (without_declaration q ds) ≡ (if is_same_property p q then None else declared_value p ds)
