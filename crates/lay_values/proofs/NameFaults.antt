-- A name is at fault exactly where no property has it.
use Rattle.std.proofs.Common.{◌≡◌, ℕ, refl, subst, List, Option, Some, None, Err, arith}
use Rattle.std.proofs.lemmas.Grind.{common_steps}
use Rattle.std.specs.Prelude.{ok_or}
use Rattle.lay_style.specs.declared.property.Property.{Property}
use Rattle.lay_style.specs.Values.{Declaration}
use Rattle.lay_values.specs.declared.reading.ValueFault.TheVariants.{BadProperty, BadValue}
use Rattle.lay_values.specs.Names.{name_of, property_of}
use Rattle.lay_values.specs.Reading.{declared_for, declaration_from, read_declaration}
use Rattle.lay_values.proofs.OneName.{own_property, property_named}

none-found : (o : Option Property) → ((p : Property) → o ≡ Some p → ⊥) → o ≡ None
none-found None not_some = refl
none-found (Some p) not_some = absurd (not_some p refl)

pub unknown_name : (name text : List ℕ) → ((p : Property) → name_of p ≡ name → ⊥) → read_declaration name text ≡ Err BadProperty
unknown_name name text unknown =
    let none = none-found (property_of name) (λ p found. unknown p (property_named name p found)) in rw none refl

value-fault : (o : Option Declaration) → ok_or o BadValue ≡ Err BadProperty → ⊥
value-fault None fault = grind (arith, common_steps)
value-fault (Some d) fault = grind (arith, common_steps)

pub known_name : (name text : List ℕ) (p : Property) → name_of p ≡ name → read_declaration name text ≡ Err BadProperty → ⊥
known_name name text p is fault =
    let found : property_of name ≡ Some p = subst (λ n. property_of n ≡ Some p) is (own_property p) in
    value-fault (declaration_from p text) (subst (λ o. declared_for o text ≡ Err BadProperty) found fault)
