-- Where a property's value on a node comes from (CSS 2.2, 6.1.1, 6.2 and 6.2.1).
use Rattle.std.specs.Prelude.{Bool, true, false, List, Option, Some, None, if◌then◌else◌}
use Rattle.lay_style.specs.declared.property.Property.{Property}
use Rattle.lay_style.specs.declared.property.Property.TheVariants.{FontSize, LineHeight, TextIndent, TextAlign, WhiteSpace}
use Rattle.lay_style.specs.declared.property.Property.TheVariants.{LetterSpacing, WordSpacing, BorderCollapse}
use Rattle.lay_style.specs.declared.property.Property.TheVariants.{BorderSpacing, CaptionSide, Visibility, EmptyCells}
use Rattle.lay_style.specs.declared.property.Given.{Given}
use Rattle.lay_style.specs.declared.property.Given.TheVariants.{Inherit}
use Rattle.lay_style.specs.Values.{Declaration}
use Rattle.lay_style.specs.Declarations.{declared_value}

-- the properties that are inherited where nothing is declared
abbrev pub is_inherited : Property → Bool
is_inherited FontSize = true
is_inherited LineHeight = true
is_inherited TextIndent = true
is_inherited TextAlign = true
is_inherited WhiteSpace = true
is_inherited LetterSpacing = true
is_inherited WordSpacing = true
is_inherited BorderCollapse = true
is_inherited BorderSpacing = true
is_inherited CaptionSide = true
is_inherited Visibility = true
is_inherited EmptyCells = true
is_inherited _ = false

-- a property's value: that of its declaration, where `inherit` takes the parent's; without one the parent's
-- for an inherited property, and else the initial one
abbrev pub computed_or_inherited : {A : Type 0} → Option Given → Bool → A → A → (Given → A) → A
computed_or_inherited None inherited parent initial computed = if inherited then parent else initial
computed_or_inherited (Some Inherit) inherited parent initial computed = parent
computed_or_inherited (Some v) inherited parent initial computed = computed v

abbrev pub cascaded : {A : Type 0} → Property → List Declaration → A → A → (Given → A) → A
cascaded p ds parent initial computed = computed_or_inherited (declared_value p ds) (is_inherited p) parent initial computed
