-- The edges of an inline box, where none of its margins and paddings is a percentage (CSS 2.2, 8.3, 8.4 and 10.3.5): its lines have
-- just those that preferred widths count.
use Rattle.std.specs.Prelude.{ℕ, ⊤, ◌≡◌, Some, slice_get}
use Rattle.lay_style.specs.declared.style.Style.{Style}
use Rattle.lay_style.specs.declared.style_lengths.LengthPercentage.{LengthPercentage}
use Rattle.lay_style.specs.declared.style_lengths.LengthPercentage.TheVariants as measure
use Rattle.lay_style.specs.declared.style_lengths.LengthPercentageOrAuto.{LengthPercentageOrAuto}
use Rattle.lay_style.specs.declared.style_lengths.LengthPercentageOrAuto.TheVariants as or_auto
use Rattle.lay_box_tree.specs.declared.box_tree.BoxNode.{BoxNode}
use Rattle.lay_sizes.specs.declared.sizing.ContainingBlock.{ContainingBlock}
use Rattle.lay_sizes.specs.declared.sizing.WidthRule.TheVariants.{Inline}
use Rattle.lay_sizes.specs.BoxSizes.{IsSized}
use Rattle.lay_sizes.specs.SizeColumns.{sizes_at}
use Rattle.lay_line_measures.specs.BoxMeasuresValue.{BoxMeasuresValue, part_at as line_part_at}
use Rattle.lay_line_measures.specs.InlineBoxes.{start_at, end_at}
use Rattle.lay_measure.specs.LineParts.{end_in, start_in}
use Rattle.lay_measure.specs.MeasureInValue.{MeasureInValue, part_at}
use Rattle.lay_flow_boxes.specs.Words.LinesAlone.{AreEdgesAlone}

abbrev pub IsLength : LengthPercentage → Type 0
IsLength (measure.Length u) = ⊤
IsLength (measure.Percent h) = ⊥

abbrev pub IsLengthOrAuto : LengthPercentageOrAuto → Type 0
IsLengthOrAuto or_auto.Auto = ⊤
IsLengthOrAuto (or_auto.Length u) = ⊤
IsLengthOrAuto (or_auto.Percent h) = ⊥

-- no margin and no padding is a percentage
pub record HasLengthsAround (s : Style) : Type 0 where
  pub margin_top : IsLengthOrAuto s.margin.top
  pub margin_right : IsLengthOrAuto s.margin.right
  pub margin_bottom : IsLengthOrAuto s.margin.bottom
  pub margin_left : IsLengthOrAuto s.margin.left
  pub padding_top : IsLength s.padding.top
  pub padding_right : IsLength s.padding.right
  pub padding_bottom : IsLength s.padding.bottom
  pub padding_left : IsLength s.padding.left

-- Where the inline box at k starts and where it ends lines have the edges that preferred widths count, whatever its containing block.
abbrev pub InlineEdgesAreAsMeasured : Type 0
InlineEdgesAreAsMeasured =
    (m : BoxMeasuresValue) (by : MeasureInValue) (k : ℕ) (b : BoxNode) (containing : ContainingBlock) → slice_get by.boxes k ≡ Some b
    → part_at by k ≡ line_part_at m k → IsSized containing Inline b.style (sizes_at m.sizes k) → HasLengthsAround b.style
    → AreEdgesAlone (start_in by k (slice_get by.boxes k)) (start_at m k).width (start_at m k).seen
    × AreEdgesAlone (end_in by k (slice_get by.boxes k)) (end_at m k).width (end_at m k).seen
