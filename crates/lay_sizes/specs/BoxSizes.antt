-- The used sizes of one box beside its containing block (CSS 2.2, 8.3 to 8.5, 10.2 to 10.5 and 10.7): its horizontal
-- margins and its width by the rule that is its own, its borders and paddings, its vertical margins, and its height with the
-- bounds of that, as far as they don't depend on what is in it. A replaced element has its used height, within its bounds.
use Rattle.std.specs.Prelude.{◌≡◌, ◌+ℤ◌, ℤ, pos, Option, Some, None}
use Rattle.lay_units.specs.declared.length.Unit.{Unit as Length}
use Rattle.lay_units.specs.declared.records.Len.{Len}
use Rattle.lay_units.specs.declared.records.Len.TheVariants.{Of as of}
use Rattle.lay_units.specs.declared.records.BlockIn.{BlockIn}
use Rattle.lay_units.specs.Lengths.{no_length}
use Rattle.lay_style.specs.declared.style.Style.{Style}
use Rattle.lay_widths.specs.declared.widths.BlockOut.{BlockOut}
use Rattle.lay_widths.specs.declared.widths.UsedWidths.{UsedWidths}
use Rattle.lay_widths.specs.BlockWidths.{IsHeld, IsUsedBlock}
use Rattle.lay_widths.specs.FloatWidths.{IsUsedFloat}
use Rattle.lay_sizes.specs.declared.sizing.BoxSizes.{BoxSizes}
use Rattle.lay_sizes.specs.declared.sizing.ContainingBlock.{ContainingBlock}
use Rattle.lay_sizes.specs.declared.sizing.WidthRule.{WidthRule}
use Rattle.lay_sizes.specs.declared.sizing.WidthRule.TheVariants.{Fills, Inline, ShrinksToFit, ReplacedBlock, Replaced}
use Rattle.lay_sizes.specs.declared.replaced.NaturalSize.{NaturalSize}
use Rattle.lay_sizes.specs.UsedLengths.{block_of, edges_of, or_zero, used_vertical_margin, used_height}
use Rattle.lay_sizes.specs.UsedLengths.{used_min_height, used_max_height, definite_height}
use Rattle.lay_sizes.specs.ReplacedBoxes.{replaced_size_of}

-- this width between margins of which auto ones are zero
abbrev pub widths_beside : BlockIn → ℤ → UsedWidths
widths_beside b width = record { margin_left = (or_zero b.margin_left).0; width = width; margin_right = (or_zero b.margin_right).0 }

-- 10.3.1, of an inline box: "The 'width' property does not apply. A computed value of 'auto' for 'margin-left' or
-- 'margin-right' becomes a used value of '0'." How wide it is, is said by its lines.
abbrev pub inline_used_widths : BlockIn → UsedWidths
inline_used_widths b = widths_beside b (pos 0)

-- the same block, with this width given and no bounds
abbrev pub with_width : BlockIn → Length → BlockIn
with_width b width = record {
  containing_width = b.containing_width;
  margin_left = b.margin_left;
  border_left = b.border_left;
  padding_left = b.padding_left;
  width = of width;
  padding_right = b.padding_right;
  border_right = b.border_right;
  margin_right = b.margin_right;
  min_width = no_length;
  max_width = None;
}

-- The used margins and width. Of a replaced element the width is used as 10.3.2 and 10.4 give it. In flow as a block, "the
-- rules for non-replaced block-level elements are applied to determine the margins" (10.3.4); where it is inline-level or
-- floats, auto ones become 0 (10.3.2, 10.3.6).
abbrev pub IsUsedWidth : ContainingBlock → WidthRule → Style → BlockOut → Type 0
IsUsedWidth containing Fills s out = IsUsedBlock (block_of containing.width s) out
IsUsedWidth containing Inline s out = IsHeld (inline_used_widths (block_of containing.width s)) out
IsUsedWidth containing (ShrinksToFit preferred_minimum preferred) s out =
    IsUsedFloat (block_of containing.width s) preferred_minimum preferred out
IsUsedWidth containing (ReplacedBlock natural) s out =
    IsUsedBlock (with_width (block_of containing.width s) (replaced_size_of containing natural s).width) out
IsUsedWidth containing (Replaced natural) s out =
    IsHeld (widths_beside (block_of containing.width s) (replaced_size_of containing natural s).width.0) out

-- the natural size of a replaced element
abbrev pub natural_of : WidthRule → Option NaturalSize
natural_of (ReplacedBlock natural) = Some natural
natural_of (Replaced natural) = Some natural
natural_of Fills = None
natural_of Inline = None
natural_of (ShrinksToFit preferred_minimum preferred) = None

-- the height, as far as it doesn't depend on what is in the box, and its bounds, which that of a replaced element is within
abbrev pub height_of : ContainingBlock → Option NaturalSize → Style → Len
height_of containing None s = used_height containing.height s.sizing.height
height_of containing (Some natural) s = of (replaced_size_of containing natural s).height

abbrev pub min_height_of : ContainingBlock → Option NaturalSize → Style → Length
min_height_of containing None s = used_min_height containing.height s.sizing.min_height
min_height_of containing (Some natural) s = no_length

abbrev pub max_height_of : ContainingBlock → Option NaturalSize → Style → Option Length
max_height_of containing None s = used_max_height containing.height s.sizing.max_height
max_height_of containing (Some natural) s = None

-- these are the used sizes of a box of this style, whose width comes by this rule, with the width of its containing block
pub record IsSized (containing : ContainingBlock) (rule : WidthRule) (s : Style) (z : BoxSizes) : Type 0 where
  pub containing_is : z.containing ≡ containing.width
  pub widths : IsUsedWidth containing rule s z.widths
  pub edges : z.edges ≡ edges_of containing.width s
  pub margin_top : z.margin_top ≡ used_vertical_margin containing.width s.margin.top
  pub margin_bottom : z.margin_bottom ≡ used_vertical_margin containing.width s.margin.bottom
  pub height : z.height ≡ height_of containing (natural_of rule) s
  pub min_height : z.min_height ≡ min_height_of containing (natural_of rule) s
  pub max_height : z.max_height ≡ max_height_of containing (natural_of rule) s

-- the content box of a box, as the containing block of what is in it (10.1)
abbrev pub content_block : BoxSizes → ContainingBlock
content_block z = record { width = z.widths.width; height = definite_height z.height z.min_height z.max_height }

-- the width of a border box
abbrev pub border_width : BoxSizes → ℤ
border_width z = z.widths.width.0 +ℤ z.edges.left.0 +ℤ z.edges.right.0
