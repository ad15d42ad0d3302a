-- Used sizes are within their bounds.
use Rattle.std.proofs.Common.{ℤ, pos, arith, Option, Some, None}
use Rattle.std.proofs.lemmas.Int.{ints, clamps}
use Rattle.lay_units.specs.Units.{clamp_of, clamp_size_of, percentage_of, IsUsed, IsUsedSize, IsSize}
use Rattle.lay_units.specs.declared.length.Unit.{Unit as Length}
use Rattle.lay_units.specs.declared.records.Len.{Len}
use Rattle.lay_units.specs.declared.records.Len.TheVariants.{Auto as auto, Of as of}
use Rattle.lay_style.specs.declared.style.Style.{Style}
use Rattle.lay_style.specs.declared.style_lengths.LengthPercentageOrAuto.{LengthPercentageOrAuto}
use Rattle.lay_style.specs.declared.style_lengths.LengthPercentageOrAuto.TheVariants as or_auto
use Rattle.lay_style.specs.declared.style_lengths.LengthPercentage.{LengthPercentage}
use Rattle.lay_style.specs.declared.style_lengths.LengthPercentage.TheVariants as measure
use Rattle.lay_widths.specs.declared.widths.BlockOut.{BlockOut}
use Rattle.lay_widths.specs.declared.widths.UsedWidths.{UsedWidths}
use Rattle.lay_widths.specs.BlockWidths.{IsHeld}
use Rattle.lay_widths.specs.ReplacedSizes.{sizes_for}
use Rattle.lay_widths.specs.declared.replaced.ReplacedIn.{ReplacedIn}
use Rattle.lay_widths.specs.declared.replaced.Sizes.{Sizes}
use Rattle.lay_sizes.specs.declared.sizing.WidthRule.{WidthRule}
use Rattle.lay_sizes.specs.declared.sizing.WidthRule.TheVariants.{Fills, Inline, ShrinksToFit, ReplacedBlock, Replaced}
use Rattle.lay_sizes.specs.declared.sizing.ContainingBlock.{ContainingBlock}
use Rattle.lay_sizes.specs.declared.replaced.NaturalSize.{NaturalSize}
use Rattle.lay_sizes.specs.ReplacedBoxes.{replaced_of, replaced_size_of}
use Rattle.lay_sizes.specs.UsedLengths.{used_size, used_vertical_margin, used_height, used_min_height, edge_of, block_of}
use Rattle.lay_sizes.specs.BoxSizes.{IsUsedWidth, height_of, inline_used_widths, min_height_of, natural_of, widths_beside}
use Rattle.lay_sizes.specs.SizeBounds.{IsInset, IsUsedSizeOrAuto}
use Rattle.lay_sizes.specs.Laws.{SizesFit}

margin_is_used : (v : ℤ) → IsUsed (clamp_of v)
margin_is_used v = (omega (arith, ints, clamps), omega (arith, ints, clamps))

pub size_is_used : (v : ℤ) → IsUsedSize (clamp_size_of v)
size_is_used v = (omega (arith, ints, clamps), omega (arith, ints, clamps))

abbrev pub solved_of : ReplacedIn → Sizes
solved_of r = sizes_for r r.width r.height

-- a used size is a size that calls of lay_widths take
pub used_is_size : (v : ℤ) → IsUsedSize v → IsSize v
used_is_size v is = (is.0, omega (arith, ints, is.1))

pub zero_is_size : IsUsedSize (pos 0)
zero_is_size = (omega (arith, ints), omega (arith, ints))

-- margins and a width that are held within the bounds of used lengths
pub record WidthsFit (out : BlockOut) : Type 0 where
  pub margin_left : IsUsed out.margin_left.0
  pub width : IsUsedSize out.width.0
  pub margin_right : IsUsed out.margin_right.0

pub held_fit : (used : UsedWidths) (out : BlockOut) → IsHeld used out → WidthsFit out
held_fit used out held = record {
  margin_left = let e = held.margin_left in rw e (margin_is_used used.margin_left);
  width = let e = held.width in rw e (size_is_used used.width);
  margin_right = let e = held.margin_right in rw e (margin_is_used used.margin_right);
}

widths_fit : (containing : ContainingBlock) (rule : WidthRule) (s : Style) (out : BlockOut) → IsUsedWidth containing rule s out → WidthsFit out
widths_fit containing Fills s out is = held_fit is.used out is.held
widths_fit containing Inline s out is = held_fit (inline_used_widths (block_of containing.width s)) out is
widths_fit containing (ShrinksToFit preferred_minimum preferred) s out is = held_fit is.used out is.held
widths_fit containing (ReplacedBlock natural) s out is = held_fit is.used out is.held
widths_fit containing (Replaced natural) s out is =
    held_fit (widths_beside (block_of containing.width s) (replaced_size_of containing natural s).width.0) out is

pub vertical_margin_is_used : (containing : Length) (margin : LengthPercentageOrAuto) → IsUsed (used_vertical_margin containing margin).0
vertical_margin_is_used containing or_auto.Auto = (omega (arith, ints), omega (arith, ints))
vertical_margin_is_used containing (or_auto.Length u) = margin_is_used u.0
vertical_margin_is_used containing (or_auto.Percent h) = margin_is_used (percentage_of h.0 containing.0)

pub used_size_is_used : (containing : Length) (size : LengthPercentage) → IsUsedSize (used_size containing size).0
used_size_is_used containing (measure.Length u) = size_is_used u.0
used_size_is_used containing (measure.Percent h) = size_is_used (percentage_of h.0 containing.0)

-- a border and a padding are two used sizes
pub edge_is_inset : (containing border : Length) (padding : LengthPercentage) → IsInset (edge_of containing border padding).0
edge_is_inset containing border padding =
    let a = size_is_used border.0 in
    let b = used_size_is_used containing padding in
    (omega (arith, ints, a.0, b.0), omega (arith, ints, a.1, b.1))

pub height_is_used : (containing : Len) (height : LengthPercentageOrAuto) → IsUsedSizeOrAuto (used_height containing height)
height_is_used containing or_auto.Auto = tt
height_is_used containing (or_auto.Length u) = size_is_used u.0
height_is_used auto (or_auto.Percent h) = tt
height_is_used (of containing) (or_auto.Percent h) = size_is_used (percentage_of h.0 containing.0)

pub min_height_is_used : (containing : Len) (height : LengthPercentage) → IsUsedSize (used_min_height containing height).0
min_height_is_used containing (measure.Length u) = size_is_used u.0
min_height_is_used auto (measure.Percent h) = zero_is_size
min_height_is_used (of containing) (measure.Percent h) = size_is_used (percentage_of h.0 containing.0)

height_fits : (containing : ContainingBlock) (natural : Option NaturalSize) (s : Style) → IsUsedSizeOrAuto (height_of containing natural s)
height_fits containing None s = height_is_used containing.height s.sizing.height
height_fits containing (Some natural) s = size_is_used (solved_of (replaced_of containing natural s)).height

min_height_fits : (containing : ContainingBlock) (natural : Option NaturalSize) (s : Style) → IsUsedSize (min_height_of containing natural s).0
min_height_fits containing None s = min_height_is_used containing.height s.sizing.min_height
min_height_fits containing (Some natural) s = zero_is_size

pub sizes_fit_lem : SizesFit
sizes_fit_lem containing rule s z is =
    let widths = widths_fit containing rule s z.widths is.widths in
    let edges = is.edges in
    record {
      margin_left = widths.margin_left;
      width = widths.width;
      margin_right = widths.margin_right;
      top = rw edges (edge_is_inset containing.width s.border.width.top s.padding.top);
      right = rw edges (edge_is_inset containing.width s.border.width.right s.padding.right);
      bottom = rw edges (edge_is_inset containing.width s.border.width.bottom s.padding.bottom);
      left = rw edges (edge_is_inset containing.width s.border.width.left s.padding.left);
      margin_top = let e = is.margin_top in rw e (vertical_margin_is_used containing.width s.margin.top);
      margin_bottom = let e = is.margin_bottom in rw e (vertical_margin_is_used containing.width s.margin.bottom);
      height = let e = is.height in rw e (height_fits containing (natural_of rule) s);
      min_height = let e = is.min_height in rw e (min_height_fits containing (natural_of rule) s);
    }
