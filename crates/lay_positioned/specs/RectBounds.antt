-- Within which bounds rectangles and borders are.
use Rattle.lay_units.specs.Units.{IsUsedSize}
use Rattle.lay_units.specs.declared.records.Sides.{Sides}

pub record AreUsedSizes (s : Sides) : Type 0 where
  pub top : IsUsedSize s.top.0
  pub right : IsUsedSize s.right.0
  pub bottom : IsUsedSize s.bottom.0
  pub left : IsUsedSize s.left.0
