-- The widths of the borders of a box are used sizes.
use Rattle.lay_units.specs.Units.{IsUsedSize}
use Rattle.lay_units.specs.declared.records.Sides.{Sides}

pub record AreUsedSides (sides : Sides) : Type 0 where
  pub top : IsUsedSize sides.top.0
  pub right : IsUsedSize sides.right.0
  pub bottom : IsUsedSize sides.bottom.0
  pub left : IsUsedSize sides.left.0
