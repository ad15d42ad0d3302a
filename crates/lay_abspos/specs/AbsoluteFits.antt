-- Which lengths an absolutely positioned box is given: positions, and sizes that aren't negative.
use Rattle.lay_units.specs.Units.{IsPosition}
use Rattle.lay_widths.specs.Lengths.{BlockFits, LenFits}
use Rattle.lay_abspos.specs.declared.axis.Axis.{Axis}

pub record AxisFits (a : Axis) : Type 0 where
  pub block : BlockFits a.block
  pub left : LenFits a.left
  pub right : LenFits a.right
  pub static_left : IsPosition a.static_left.0
