-- Which lengths the calls are given and answer, and bounds of sums of them.
use Rattle.std.specs.Prelude.{List, All, Option, Some, None, ⊤}
use Rattle.lay_units.specs.declared.length.Unit.{Unit}
use Rattle.lay_units.specs.Units.{IsPosition}

abbrev pub ArePositions : List Unit → Type 0
ArePositions lengths = All (λ (length : Unit). IsPosition length.0) lengths

-- no length, or a position
abbrev pub MayBePosition : Option Unit → Type 0
MayBePosition None = ⊤
MayBePosition (Some length) = IsPosition length.0
