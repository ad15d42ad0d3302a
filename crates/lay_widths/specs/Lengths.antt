-- Lengths of a block across its containing block, and which lengths are given to the calls.
use Rattle.std.specs.Prelude.{ℕ, ◌^◌, ℤ, pos, neg_ℤ, ◌+ℤ◌, ◌<ℤ◌, IfSome, ⊤}
use Rattle.lay_units.specs.Units.{IsPosition, IsSize}
use Rattle.lay_units.specs.declared.records.Len.{Len}
use Rattle.lay_units.specs.declared.records.Len.TheVariants.{Auto as auto, Of as of}
use Rattle.lay_units.specs.declared.records.BlockIn.{BlockIn}
use Rattle.lay_widths.specs.declared.widths.UsedWidths.{UsedWidths}

-- a length, and zero for auto
abbrev pub or_zero : Len → ℤ
or_zero auto = pos 0
or_zero (of v) = v.0

-- the borders and paddings of both sides
abbrev pub edges_of : BlockIn → ℤ
edges_of b = b.border_left.0 +ℤ b.padding_left.0 +ℤ b.padding_right.0 +ℤ b.border_right.0

-- margin-left + border-left + padding-left + width + padding-right + border-right + margin-right
abbrev pub sum_of_widths : BlockIn → UsedWidths → ℤ
sum_of_widths b used =
    used.margin_left +ℤ b.border_left.0 +ℤ b.padding_left.0 +ℤ used.width +ℤ b.padding_right.0 +ℤ b.border_right.0 +ℤ used.margin_right

-- the same of a width and the margins that aren't auto
abbrev pub together : BlockIn → ℤ → ℤ
together b width =
    or_zero b.margin_left +ℤ b.border_left.0 +ℤ b.padding_left.0 +ℤ width +ℤ b.padding_right.0 +ℤ b.border_right.0 +ℤ or_zero b.margin_right

-- auto, or a position
abbrev pub LenFits : Len → Type 0
LenFits auto = ⊤
LenFits (of v) = IsPosition v.0

-- auto, or a position that isn't negative
abbrev pub LenIsSize : Len → Type 0
LenIsSize auto = ⊤
LenIsSize (of v) = IsSize v.0

-- the lengths of a block are positions, and those that CSS never makes negative aren't
pub record BlockFits (b : BlockIn) : Type 0 where
  pub containing_width : IsPosition b.containing_width.0
  pub margin_left : LenFits b.margin_left
  pub border_left : IsSize b.border_left.0
  pub padding_left : IsSize b.padding_left.0
  pub width : LenIsSize b.width
  pub padding_right : IsSize b.padding_right.0
  pub border_right : IsSize b.border_right.0
  pub margin_right : LenFits b.margin_right
  pub min_width : IsSize b.min_width.0
  pub max_width : IfSome b.max_width (λ v. IsSize v.0)

-- less than 2^n in absolute value
abbrev pub IsBelow : ℕ → ℤ → Type 0
IsBelow n v = (neg_ℤ (pos (2 ^ n)) <ℤ v) × (v <ℤ pos (2 ^ n))
