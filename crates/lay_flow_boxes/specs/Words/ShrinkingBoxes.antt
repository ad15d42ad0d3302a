-- Boxes that shrink to fit (CSS 2.2, 10.3.5, 10.3.9 and 10.4), where none of their lengths is a percentage: one whose containing block
-- has room for what preferred widths count of it takes just that.
use Rattle.std.specs.Prelude.{⊤, ◌≡◌, ◌≤ℤ◌, Option}
use Rattle.lay_units.specs.Units.{IsUsedSize}
use Rattle.lay_units.specs.declared.length.Unit.{Unit as Length}
use Rattle.lay_style.specs.declared.style.Style.{Style}
use Rattle.lay_style.specs.declared.style_lengths.LengthPercentageOrNone.{LengthPercentageOrNone}
use Rattle.lay_style.specs.declared.style_lengths.LengthPercentageOrNone.TheVariants as or_none
use Rattle.lay_sizes.specs.declared.sizing.BoxSizes.{BoxSizes}
use Rattle.lay_sizes.specs.declared.sizing.ContainingBlock.{ContainingBlock}
use Rattle.lay_sizes.specs.declared.sizing.WidthRule.TheVariants.{ShrinksToFit}
use Rattle.lay_sizes.specs.BoxSizes.{IsSized}
use Rattle.lay_sizes.specs.OwnBoxes.{margin_width, own_box}
use Rattle.lay_measure.specs.Contributions.{bounded_width, margin_box}
use Rattle.lay_flow_boxes.specs.Words.InlineEdges.{HasLengthsAround, IsLength, IsLengthOrAuto}

abbrev pub IsLengthOrNone : LengthPercentageOrNone → Type 0
IsLengthOrNone or_none.None = ⊤
IsLengthOrNone (or_none.Length u) = ⊤
IsLengthOrNone (or_none.Percent h) = ⊥

-- neither the width nor a bound of it is a percentage
pub record HasLengthsAcross (s : Style) : Type 0 where
  pub width : IsLengthOrAuto s.sizing.width
  pub min_width : IsLength s.sizing.min_width
  pub max_width : IsLengthOrNone s.sizing.max_width

-- What it takes is the width of its margin box.
abbrev pub ShrinkingBoxesTakeWhatIsMeasured : Type 0
ShrinkingBoxesTakeWhatIsMeasured =
    (s : Style) (containing : ContainingBlock) (minimum preferred : Length) (z : BoxSizes) (height : Length) (baseline : Option Length)
    → IsSized containing (ShrinksToFit minimum preferred) s z → HasLengthsAround s → HasLengthsAcross s → minimum.0 ≤ℤ preferred.0
    → IsUsedSize preferred.0 → (margin_box s (bounded_width s preferred)).0 ≤ℤ containing.width.0
    → margin_width (own_box z height baseline) ≡ (margin_box s (bounded_width s preferred)).0
