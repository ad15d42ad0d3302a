-- The width of a replaced element where nothing around it is known (CSS 2.2, 10.3.2, 10.4, 10.6.2 and 10.7): that of
-- the rules for replaced elements, where a percentage of `width` and `height` counts as `auto`, one of `min-width`
-- and `min-height` as 0, and one of `max-width` and `max-height` as `none`. It is both preferred widths of the
-- element. Natural sizes are from 1 unit on.
use Rattle.std.specs.Prelude.{ℤ}
use Rattle.lay_units.specs.Units.{clamp_size_of}
use Rattle.lay_units.specs.declared.length.Unit.{Unit as Length}
use Rattle.lay_units.specs.declared.records.Len.{Len}
use Rattle.lay_units.specs.declared.records.Len.TheVariants.{Auto as auto, Of as of}
use Rattle.lay_style.specs.declared.style.Style.{Style}
use Rattle.lay_style.specs.declared.style_lengths.LengthPercentageOrAuto.{LengthPercentageOrAuto}
use Rattle.lay_style.specs.declared.style_lengths.LengthPercentageOrAuto.TheVariants as or_auto
use Rattle.lay_widths.specs.ReplacedSizes.{sizes_for, natural_length}
use Rattle.lay_widths.specs.declared.replaced.ReplacedIn.{ReplacedIn}
use Rattle.lay_style.specs.LengthValues.{size_of}
use Rattle.lay_measure.specs.Contributions.{limit_of, size_or_zero}

abbrev pub length_or_auto : LengthPercentageOrAuto → Len
length_or_auto or_auto.Auto = auto
length_or_auto (or_auto.Length u) = of (size_of u.0)
length_or_auto (or_auto.Percent h) = auto

-- an element of these natural sizes and this style
abbrev pub replaced_of_natural_size : Length → Length → Style → ReplacedIn
replaced_of_natural_size w h s = record {
  natural_width = natural_length w;
  natural_height = natural_length h;
  width = length_or_auto s.sizing.width;
  height = length_or_auto s.sizing.height;
  min_width = size_or_zero s.sizing.min_width;
  max_width = limit_of s.sizing.max_width;
  min_height = size_or_zero s.sizing.min_height;
  max_height = limit_of s.sizing.max_height;
}

abbrev pub width_of : ReplacedIn → ℤ
width_of r = clamp_size_of (sizes_for r r.width r.height).width

abbrev pub replaced_width : Length → Length → Style → ℤ
replaced_width w h s = width_of (replaced_of_natural_size w h s)
