-- The offset of a relatively positioned box (CSS 2.2, 9.4.3). "Since boxes are not split or stretched as a result of 'left' or
-- 'right', the used values are always: left = -right." Where both are `auto` they are 0, where one is, it is minus the other,
-- and "if neither 'left' nor 'right' is 'auto', the position is over-constrained": `left` wins, as `top` wins over `bottom`. A
-- percentage is of the width of the containing block, or of its height; where that depends on what is in it, it counts as
-- `auto` (10.5). In a block 100px wide `left: 10%` and `right: 5px` move a box 10px to the right.
use Rattle.std.specs.Prelude.{neg_ℤ, Bool, true, false, ⊤, if◌then◌else◌}
use Rattle.lay_units.specs.Units.{IsUsed, percentage_of}
use Rattle.lay_units.specs.declared.length.Unit.{Unit as Length}
use Rattle.lay_units.specs.declared.records.Len.{Len}
use Rattle.lay_units.specs.declared.records.Len.TheVariants.{Auto as auto, Of as of}
use Rattle.lay_units.specs.Lengths.{no_length}
use Rattle.lay_style.specs.declared.style.Style.{Style}
use Rattle.lay_style.specs.declared.style_lengths.LengthPercentageOrAuto.{LengthPercentageOrAuto}
use Rattle.lay_style.specs.declared.style_lengths.LengthPercentageOrAuto.TheVariants as or_auto
use Rattle.lay_style.specs.declared.style_words.Position.{Position}
use Rattle.lay_style.specs.declared.style_words.Position.TheVariants as position
use Rattle.lay_style.specs.LengthValues.{length_of}
use Rattle.lay_sizes.specs.declared.sizing.ContainingBlock.{ContainingBlock}
use Rattle.lay_abspos.specs.declared.relative.offset.Offset.{Offset}

-- the used value of an offset beside the width or the height of the containing block
abbrev pub used_offset : Len → LengthPercentageOrAuto → Len
used_offset extent or_auto.Auto = auto
used_offset extent (or_auto.Length u) = of (length_of u.0)
used_offset auto (or_auto.Percent h) = auto
used_offset (of extent) (or_auto.Percent h) = of (record { 0 = percentage_of h.0 extent.0 })

-- how far these move a box to the right, or down
abbrev pub distance_of : (before after : Len) → Length
distance_of (of before) after = before
distance_of auto (of after) = record { 0 = neg_ℤ after.0 }
distance_of auto auto = no_length

abbrev pub is_relative : Position → Bool
is_relative position.Relative = true
is_relative _ = false

abbrev pub no_offset : Offset
no_offset = record { right = no_length; down = no_length }

-- by how much a box of this style is moved by itself
abbrev pub relative_offset : ContainingBlock → Style → Offset
relative_offset containing s =
    if is_relative s.position then record {
      right = distance_of (used_offset (of containing.width) s.offset.left) (used_offset (of containing.width) s.offset.right);
      down = distance_of (used_offset containing.height s.offset.top) (used_offset containing.height s.offset.bottom);
    } else no_offset

-- within the bounds of used lengths
abbrev pub LenIsUsed : Len → Type 0
LenIsUsed auto = ⊤
LenIsUsed (of v) = IsUsed v.0

pub record IsOffsetUsed (o : Offset) : Type 0 where
  pub right : IsUsed o.right.0
  pub down : IsUsed o.down.0
