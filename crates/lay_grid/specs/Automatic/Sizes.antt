-- Which lengths the calls are given: sizes, that is from 0 on and below 2^62.
use Rattle.std.specs.Prelude.{List, All, Option, Some, None, ⊤}
use Rattle.lay_units.specs.declared.length.Unit.{Unit}
use Rattle.lay_units.specs.Units.{IsSize}

abbrev pub AreSizes : List Unit → Type 0
AreSizes lengths = All (λ (length : Unit). IsSize length.0) lengths

-- no length, or a size
abbrev pub MayBeSize : Option Unit → Type 0
MayBeSize None = ⊤
MayBeSize (Some length) = IsSize length.0
