-- Within which bounds used sizes are (CSS 2.2, 4.3.2): margins are at most 2^31 units from 0, a width, a given height and a
-- minimum are from 0 to 2^31 units, and a border and a padding together are from 0 to 2^32.
use Rattle.std.specs.Prelude.{◌^◌, ℤ, pos, ◌≤ℤ◌, ⊤}
use Rattle.lay_units.specs.Units.{IsUsed, IsUsedSize}
use Rattle.lay_units.specs.declared.records.Len.{Len}
use Rattle.lay_units.specs.declared.records.Len.TheVariants.{Auto as auto, Of as of}
use Rattle.lay_units.specs.declared.records.Sides.{Sides}
use Rattle.lay_sizes.specs.declared.sizing.BoxSizes.{BoxSizes}

-- a border and a padding on one side
abbrev pub IsInset : ℤ → Type 0
IsInset v = (pos 0 ≤ℤ v) × (v ≤ℤ pos (2 ^ 32))

pub record AreInsets (s : Sides) : Type 0 where
  pub top : IsInset s.top.0
  pub right : IsInset s.right.0
  pub bottom : IsInset s.bottom.0
  pub left : IsInset s.left.0

-- auto, or a used size
abbrev pub IsUsedSizeOrAuto : Len → Type 0
IsUsedSizeOrAuto auto = ⊤
IsUsedSizeOrAuto (of v) = IsUsedSize v.0

pub record SizeFits (z : BoxSizes) : Type 0 where
  pub margin_left : IsUsed z.widths.margin_left.0
  pub width : IsUsedSize z.widths.width.0
  pub margin_right : IsUsed z.widths.margin_right.0
  pub top : IsInset z.edges.top.0
  pub right : IsInset z.edges.right.0
  pub bottom : IsInset z.edges.bottom.0
  pub left : IsInset z.edges.left.0
  pub margin_top : IsUsed z.margin_top.0
  pub margin_bottom : IsUsed z.margin_bottom.0
  pub height : IsUsedSizeOrAuto z.height
  pub min_height : IsUsedSize z.min_height.0
