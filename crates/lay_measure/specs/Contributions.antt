-- What a box takes of the preferred widths of what is around it (CSS 2.2, 10.3.5): the width of its content, or its
-- `width` in place of that where it is a length, between its `min-width` and `max-width` where these are lengths
-- (10.4), with its margins, borders and paddings (8.1). How wide its containing block will be isn't known yet. So a
-- percentage counts as `auto` in `width`, as `none` in `max-width`, and else as 0; margins that are `auto` are 0 too.
use Rattle.std.specs.Prelude.{ℤ, ◌+ℤ◌, Option, Some, None}
use Rattle.lay_units.specs.declared.length.Unit.{Unit as Length}
use Rattle.lay_units.specs.Lengths.{no_length}
use Rattle.lay_style.specs.LengthValues.{length_of, size_of}
use Rattle.lay_style.specs.declared.style.Style.{Style}
use Rattle.lay_style.specs.declared.style_lengths.LengthPercentage.{LengthPercentage}
use Rattle.lay_style.specs.declared.style_lengths.LengthPercentage.TheVariants as measure
use Rattle.lay_style.specs.declared.style_lengths.LengthPercentageOrAuto.{LengthPercentageOrAuto}
use Rattle.lay_style.specs.declared.style_lengths.LengthPercentageOrAuto.TheVariants as or_auto
use Rattle.lay_style.specs.declared.style_lengths.LengthPercentageOrNone.{LengthPercentageOrNone}
use Rattle.lay_style.specs.declared.style_lengths.LengthPercentageOrNone.TheVariants as or_none
use Rattle.lay_heights.specs.MinMax.{with_min_max_of}

-- a padding or a `min-width`
abbrev pub size_or_zero : LengthPercentage → Length
size_or_zero (measure.Length u) = size_of u.0
size_or_zero (measure.Percent h) = no_length

abbrev pub margin_or_zero : LengthPercentageOrAuto → Length
margin_or_zero or_auto.Auto = no_length
margin_or_zero (or_auto.Length u) = length_of u.0
margin_or_zero (or_auto.Percent h) = no_length

-- a `max-width`
abbrev pub limit_of : LengthPercentageOrNone → Option Length
limit_of or_none.None = None
limit_of (or_none.Length u) = Some (size_of u.0)
limit_of (or_none.Percent h) = None

-- the margin, the border and the padding of a side
abbrev pub left_edges : Style → ℤ
left_edges s = (margin_or_zero s.margin.left).0 +ℤ (size_of s.border.width.left.0).0 +ℤ (size_or_zero s.padding.left).0

abbrev pub right_edges : Style → ℤ
right_edges s = (margin_or_zero s.margin.right).0 +ℤ (size_of s.border.width.right.0).0 +ℤ (size_or_zero s.padding.right).0

-- a `width` that is a length, in place of the content's width
abbrev pub given_or : LengthPercentageOrAuto → Length → Length
given_or or_auto.Auto content = content
given_or (or_auto.Length u) content = size_of u.0
given_or (or_auto.Percent h) content = content

-- the width of a box with this content, between its bounds
abbrev pub bounded_width : Style → Length → ℤ
bounded_width s content =
    with_min_max_of (given_or s.sizing.width content).0 (size_or_zero s.sizing.min_width).0 (limit_of s.sizing.max_width)

-- the width of the margin box around a content box of this width
abbrev pub margin_box : Style → ℤ → Length
margin_box s width = record { 0 = left_edges s +ℤ width +ℤ right_edges s }

-- the width of the margin box around a border box of this width
abbrev pub around_border : Style → Length → Length
around_border s width = record { 0 = (margin_or_zero s.margin.left).0 +ℤ width.0 +ℤ (margin_or_zero s.margin.right).0 }
