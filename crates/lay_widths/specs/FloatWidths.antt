-- Used widths of floats that aren't replaced (CSS 2.2, 10.3.5 and 10.4). Auto margins are zero, and an auto
-- width shrinks to fit: it is as wide as its content would like to be, but no wider than the room for
-- it, and no narrower than its content can be.
use Rattle.std.specs.Prelude.{◌≡◌, ℤ, pos, ◌-ℤ◌}
use Rattle.std.specs.Int.{int_min, int_max}
use Rattle.lay_units.specs.declared.length.Unit.{Unit}
use Rattle.lay_units.specs.declared.records.Len.{Len}
use Rattle.lay_units.specs.declared.records.Len.TheVariants.{Auto as auto, Of as of}
use Rattle.lay_units.specs.declared.records.BlockIn.{BlockIn}
use Rattle.lay_widths.specs.declared.widths.BlockOut.{BlockOut}
use Rattle.lay_widths.specs.declared.widths.UsedWidths.{UsedWidths}
use Rattle.lay_widths.specs.Lengths.{or_zero, together}
use Rattle.lay_widths.specs.BlockWidths.{IsHeld, width_in}
use Rattle.lay_widths.specs.MinMax.{IsBounded}

-- the containing width less margins, borders and paddings
abbrev pub available_of : BlockIn → ℤ
available_of b = b.containing_width.0 -ℤ together b (pos 0)

-- min(max(preferred minimum width, available width), preferred width)
abbrev pub shrink_to_fit_of : ℤ → ℤ → ℤ → ℤ
shrink_to_fit_of preferred_minimum available preferred = int_min (int_max preferred_minimum available) preferred

abbrev pub float_width_of : BlockIn → Unit → Unit → Len → ℤ
float_width_of b preferred_minimum preferred auto = shrink_to_fit_of preferred_minimum.0 (available_of b) preferred.0
float_width_of b preferred_minimum preferred (of width) = width.0

-- the margins and the width that the rules of 10.3.5 give for a computed width
pub record SolvesFloat (b : BlockIn) (preferred_minimum preferred : Unit) (computed : Len) (used : UsedWidths) : Type 0 where
  pub margin_left : used.margin_left ≡ or_zero b.margin_left
  pub width : used.width ≡ float_width_of b preferred_minimum preferred computed
  pub margin_right : used.margin_right ≡ or_zero b.margin_right

-- the used margins and width of a float
pub record IsUsedFloat (b : BlockIn) (preferred_minimum preferred : Unit) (out : BlockOut) : Type 0 where
  pub used : UsedWidths
  pub bounded : IsBounded width_in (SolvesFloat b preferred_minimum preferred) b.width b.min_width b.max_width used
  pub held : IsHeld used out
