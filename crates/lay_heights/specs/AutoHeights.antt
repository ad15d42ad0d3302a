-- Auto heights (CSS 2.2, 10.6.3 and 10.6.7). A block in flow reaches from the top of its content to the
-- first of some ends; the root of a block formatting context also holds its floats. Both are exact
-- differences here: as used heights they are held from 0 to 2^31.
use Rattle.std.specs.Prelude.{ℤ, pos, ◌-ℤ◌, Option, Some, None, IfSome}
use Rattle.std.specs.Int.{int_max}
use Rattle.lay_units.specs.Units.{IsPosition}
use Rattle.lay_units.specs.declared.length.Unit.{Unit}
use Rattle.lay_heights.specs.declared.auto_height.FlowEnds.{FlowEnds}

-- the height of a block in flow whose overflow is visible: from the top of its content to the bottom of
-- its last line, else of the last child's margin, else of the border of the last child that counts,
-- else zero
abbrev pub auto_height_of : FlowEnds → ℤ
auto_height_of ends = reach ends.line ends.margin ends.border
  where
    reach : Option Unit → Option Unit → Option Unit → ℤ
    reach (Some line) margin border = line.0 -ℤ ends.top.0
    reach None (Some margin) border = margin.0 -ℤ ends.top.0
    reach None None (Some border) = border.0 -ℤ ends.top.0
    reach None None None = pos 0

-- the height of the root of a block formatting context: from the top of its content to its end, or to the
-- bottom margin edge of its floats where that is lower
abbrev pub root_height_of : Unit → Unit → Option Unit → ℤ
root_height_of top end None = end.0 -ℤ top.0
root_height_of top end (Some floats) = int_max end.0 floats.0 -ℤ top.0

-- all ends are positions below 2^62 in absolute value
pub record EndsFit (ends : FlowEnds) : Type 0 where
  pub top : IsPosition ends.top.0
  pub line : IfSome ends.line (λ v. IsPosition v.0)
  pub margin : IfSome ends.margin (λ v. IsPosition v.0)
  pub border : IfSome ends.border (λ v. IsPosition v.0)
