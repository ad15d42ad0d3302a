-- A computation that answers what a definition says.
use Rattle.std.specs.Prelude.{◌≡◌}
use Rattle.lay_style.specs.declared.property.Given.{Given}

-- each answer to a given value is the definition's
abbrev pub Follows : {A : Type 0} → (Given → A → Type 0) → (Given → A) → Type 0
Follows {A} answers value = (given : Given) (answer : A) → answers given answer → answer ≡ value given
