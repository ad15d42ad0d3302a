-- Used widths of blocks in flow that aren't replaced (CSS 2.2, 10.3.3 and 10.4), with text from left to
-- right. Margins, borders, paddings and width fill the containing block; the cases say which of them
-- are as given, and the equation gives the one that is left.
use Rattle.std.specs.Prelude.{◌≡◌, ℤ, pos, ◌-ℤ◌, ◌≤ℤ◌, ◌<ℤ◌}
use Rattle.lay_units.specs.Units.{clamp_of, clamp_size_of, half_of}
use Rattle.lay_units.specs.declared.records.Len.{Len}
use Rattle.lay_units.specs.declared.records.Len.TheVariants.{Auto as auto, Of as of}
use Rattle.lay_units.specs.declared.records.BlockIn.{BlockIn}
use Rattle.lay_widths.specs.declared.widths.BlockOut.{BlockOut}
use Rattle.lay_widths.specs.declared.widths.UsedWidths.{UsedWidths}
use Rattle.lay_widths.specs.Lengths.{or_zero, sum_of_widths, together}
use Rattle.lay_widths.specs.MinMax.{IsBounded}

-- an auto width: auto margins are zero. Where the rest leaves room the width follows from the equation;
-- otherwise it is zero, and margin-right follows
pub record AutoWidth (b : BlockIn) (used : UsedWidths) : Type 0 where
  pub margin_left : used.margin_left ≡ or_zero b.margin_left
  pub room : together b (pos 0) ≤ℤ b.containing_width.0 → used.margin_right ≡ or_zero b.margin_right
  pub no_room : b.containing_width.0 <ℤ together b (pos 0) → used.width ≡ pos 0

-- which margin is as given, where this much of the containing width is left: margin-left wherever it
-- isn't auto, so that margin-right follows, given or not; else margin-right; and of two auto margins
-- each is half of what is left, margin-left rounded down
abbrev pub GivenMargin : Len → Len → ℤ → UsedWidths → Type 0
GivenMargin (of left) right rest used = used.margin_left ≡ left.0
GivenMargin auto (of right) rest used = used.margin_right ≡ right.0
GivenMargin auto auto rest used = used.margin_left ≡ half_of rest

-- a given width: where it is too wide with all that isn't auto, auto margins count as zero, and
-- margin-right follows from the equation
pub record GivenWidth (b : BlockIn) (width : ℤ) (used : UsedWidths) : Type 0 where
  pub width_is : used.width ≡ width
  pub too_wide : b.containing_width.0 <ℤ together b width → used.margin_left ≡ or_zero b.margin_left
  pub fits : together b width ≤ℤ b.containing_width.0
      → GivenMargin b.margin_left b.margin_right (b.containing_width.0 -ℤ together b width) used

abbrev pub WidthCases : BlockIn → Len → UsedWidths → Type 0
WidthCases b auto used = AutoWidth b used
WidthCases b (of width) used = GivenWidth b width.0 used

-- the widths that the rules of 10.3.3 give for a computed width
pub record SolvesBlock (b : BlockIn) (computed : Len) (used : UsedWidths) : Type 0 where
  pub equation : sum_of_widths b used ≡ b.containing_width.0
  pub cases : WidthCases b computed used

-- margins and width, held within the bounds of used lengths
pub record IsHeld (used : UsedWidths) (out : BlockOut) : Type 0 where
  pub margin_left : out.margin_left.0 ≡ clamp_of used.margin_left
  pub width : out.width.0 ≡ clamp_size_of used.width
  pub margin_right : out.margin_right.0 ≡ clamp_of used.margin_right

abbrev pub width_in : UsedWidths → ℤ
width_in used = used.width

-- the used margins and width of a block
pub record IsUsedBlock (b : BlockIn) (out : BlockOut) : Type 0 where
  pub used : UsedWidths
  pub bounded : IsBounded width_in (SolvesBlock b) b.width b.min_width b.max_width used
  pub held : IsHeld used out
