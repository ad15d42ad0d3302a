-- The bounds of the struts of a pass.
use Rattle.std.specs.Prelude.{pos, neg_ℤ, ◌≤ℤ◌}
use Rattle.lay_units.specs.Units.{limit}
use Rattle.lay_margins.specs.StrutValue.{StrutValue}

-- the strut holds used margins
pub record StrutFits (s : StrutValue) : Type 0 where
  pub positive_least : pos 0 ≤ℤ s.positive
  pub positive_most : s.positive ≤ℤ limit
  pub negative_least : neg_ℤ limit ≤ℤ s.negative
  pub negative_most : s.negative ≤ℤ pos 0
