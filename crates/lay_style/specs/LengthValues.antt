-- The computed values of the properties that have lengths (CSS 2.2, 4.3.2 and 6.1.2): an em is taken of a
-- font size, in thousandths and rounded down, a percentage stays one, and a computed length is held within
-- the bounds of used ones. A value that the property doesn't take is never declared.
use Rattle.std.specs.Prelude.{ℤ, pos, ◌*ℤ◌, ◌*◌, ℕ}
use Rattle.lay_units.specs.declared.length.Unit.{Unit as Length}
use Rattle.lay_units.specs.Units.{clamp_of, clamp_size_of, floor_div}
use Rattle.lay_style.specs.declared.property.Word.TheVariants as word
use Rattle.lay_style.specs.declared.property.OneLength.{OneLength}
use Rattle.lay_style.specs.declared.property.OneLength.TheVariants as one
use Rattle.lay_style.specs.declared.property.Given.{Given}
use Rattle.lay_style.specs.declared.property.Given.TheVariants as given
use Rattle.lay_style.specs.declared.style_lengths.LengthPercentageOrAuto.{LengthPercentageOrAuto}
use Rattle.lay_style.specs.declared.style_lengths.LengthPercentageOrAuto.TheVariants as or_auto
use Rattle.lay_style.specs.declared.style_lengths.LengthPercentage.{LengthPercentage}
use Rattle.lay_style.specs.declared.style_lengths.LengthPercentage.TheVariants as measure
use Rattle.lay_style.specs.declared.style_lengths.LengthPercentageOrNone.{LengthPercentageOrNone}
use Rattle.lay_style.specs.declared.style_lengths.LengthPercentageOrNone.TheVariants as or_none
use Rattle.lay_style.specs.declared.style_lengths.LineHeight.{LineHeight}
use Rattle.lay_style.specs.declared.style_lengths.LineHeight.TheVariants as line
use Rattle.lay_style.specs.declared.style_lengths.VerticalAlign.{VerticalAlign}
use Rattle.lay_style.specs.declared.style_lengths.VerticalAlign.TheVariants as vertical
use Rattle.lay_style.specs.declared.style_lengths.ZIndex.{ZIndex}
use Rattle.lay_style.specs.declared.style_lengths.ZIndex.TheVariants as index
use Rattle.lay_style.specs.declared.style_lengths.BorderSpacing.{BorderSpacing}

-- so many thousandths, and so many hundredths of a percent, of a font size
abbrev pub ems_of : ℤ → Length → ℤ
ems_of e font = floor_div (e *ℤ font.0) 1000

abbrev pub percents_of : ℤ → Length → ℤ
percents_of h font = floor_div (h *ℤ font.0) 10000

-- a length, and one that can't be negative
abbrev pub length_of : ℤ → Length
length_of v = record { 0 = clamp_of v }

abbrev pub size_of : ℤ → Length
size_of v = record { 0 = clamp_size_of v }

abbrev pub px : ℕ → Length
px n = record { 0 = pos (64 * n) }

-- `top`, `right`, `bottom`, `left` and the margins
abbrev pub offset_of : Length → Given → LengthPercentageOrAuto
offset_of font (given.Length u) = or_auto.Length (length_of u.0)
offset_of font (given.Em e) = or_auto.Length (length_of (ems_of e font))
offset_of font (given.Percent h) = or_auto.Percent h
offset_of font _ = or_auto.Auto

-- `width` and `height`
abbrev pub size_or_auto_of : Length → Given → LengthPercentageOrAuto
size_or_auto_of font (given.Length u) = or_auto.Length (size_of u.0)
size_or_auto_of font (given.Em e) = or_auto.Length (size_of (ems_of e font))
size_or_auto_of font (given.Percent h) = or_auto.Percent h
size_or_auto_of font _ = or_auto.Auto

-- `min-width`, `min-height` and the paddings
abbrev pub size_measure_of : Length → Given → LengthPercentage
size_measure_of font (given.Length u) = measure.Length (size_of u.0)
size_measure_of font (given.Em e) = measure.Length (size_of (ems_of e font))
size_measure_of font (given.Percent h) = measure.Percent h
size_measure_of font _ = measure.Length (px 0)

-- `max-width` and `max-height`
abbrev pub size_or_none_of : Length → Given → LengthPercentageOrNone
size_or_none_of font (given.Length u) = or_none.Length (size_of u.0)
size_or_none_of font (given.Em e) = or_none.Length (size_of (ems_of e font))
size_or_none_of font (given.Percent h) = or_none.Percent h
size_or_none_of font _ = or_none.None

-- `text-indent`
abbrev pub indent_of : Length → Given → LengthPercentage
indent_of font (given.Length u) = measure.Length (length_of u.0)
indent_of font (given.Em e) = measure.Length (length_of (ems_of e font))
indent_of font (given.Percent h) = measure.Percent h
indent_of font _ = measure.Length (px 0)

-- `letter-spacing` and `word-spacing`, of which `normal` is 0
abbrev pub spacing_of : Length → Given → Length
spacing_of font (given.Length u) = length_of u.0
spacing_of font (given.Em e) = length_of (ems_of e font)
spacing_of font _ = px 0

-- the width of a border, where there is one (8.5.1)
abbrev pub border_width_of : Length → Given → Length
border_width_of font (given.Keyword word.Thin) = px 1
border_width_of font (given.Keyword word.Thick) = px 5
border_width_of font (given.Length u) = size_of u.0
border_width_of font (given.Em e) = size_of (ems_of e font)
border_width_of font _ = px 3

-- `font-size` beside the font size of the parent (15.7)
abbrev pub font_size_of : Length → Given → Length
font_size_of parent (given.Keyword word.XxSmall) = px 9
font_size_of parent (given.Keyword word.XSmall) = px 10
font_size_of parent (given.Keyword word.Small) = px 13
font_size_of parent (given.Keyword word.Large) = px 18
font_size_of parent (given.Keyword word.XLarge) = px 24
font_size_of parent (given.Keyword word.XxLarge) = px 32
font_size_of parent (given.Keyword word.Larger) = size_of (floor_div (pos 6 *ℤ parent.0) 5)
font_size_of parent (given.Keyword word.Smaller) = size_of (floor_div (pos 5 *ℤ parent.0) 6)
font_size_of parent (given.Length u) = size_of u.0
font_size_of parent (given.Em e) = size_of (ems_of e parent)
font_size_of parent (given.Percent h) = size_of (percents_of h.0 parent)
font_size_of parent _ = px 16

-- `line-height` (10.8.1)
abbrev pub line_height_of : Length → Given → LineHeight
line_height_of font (given.Number n) = line.Number n
line_height_of font (given.Length u) = line.Length (size_of u.0)
line_height_of font (given.Em e) = line.Length (size_of (ems_of e font))
line_height_of font (given.Percent h) = line.Length (size_of (percents_of h.0 font))
line_height_of font _ = line.Normal

-- `vertical-align` (10.8.1)
abbrev pub vertical_align_of : Length → Given → VerticalAlign
vertical_align_of font (given.Keyword word.Sub) = vertical.Sub
vertical_align_of font (given.Keyword word.Super) = vertical.Super
vertical_align_of font (given.Keyword word.Top) = vertical.Top
vertical_align_of font (given.Keyword word.TextTop) = vertical.TextTop
vertical_align_of font (given.Keyword word.Middle) = vertical.Middle
vertical_align_of font (given.Keyword word.Bottom) = vertical.Bottom
vertical_align_of font (given.Keyword word.TextBottom) = vertical.TextBottom
vertical_align_of font (given.Length u) = vertical.Length (length_of u.0)
vertical_align_of font (given.Em e) = vertical.Length (length_of (ems_of e font))
vertical_align_of font (given.Percent h) = vertical.Percent h
vertical_align_of font _ = vertical.Baseline

-- `z-index` (9.9.1)
abbrev pub z_index_of : Given → ZIndex
z_index_of (given.Number n) = index.Number n
z_index_of _ = index.Auto

-- one length of `border-spacing`
abbrev pub one_spacing_of : Length → OneLength → Length
one_spacing_of font (one.Length u) = size_of u.0
one_spacing_of font (one.Em e) = size_of (ems_of e font)

-- `border-spacing` (17.6.1): one length counts for both
abbrev pub border_spacing_of : Length → Given → BorderSpacing
border_spacing_of font (given.Length u) = record { horizontal = size_of u.0; vertical = size_of u.0 }
border_spacing_of font (given.Em e) = record { horizontal = size_of (ems_of e font); vertical = size_of (ems_of e font) }
border_spacing_of font (given.Pair a b) = record { horizontal = one_spacing_of font a; vertical = one_spacing_of font b }
border_spacing_of font _ = record { horizontal = px 0; vertical = px 0 }
