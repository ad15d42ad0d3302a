-- What margins, borders, paddings, widths and heights are used as (CSS 2.2, 8.3, 8.4, 8.5.1, 10.2, 10.4, 10.5 and
-- 10.7): a percentage is taken of the width or the height of the containing block, rounded down, and a used length is
-- held within its bounds. A percentage of 12.5% of 51,200 units is 6,400 units.
use Rattle.std.specs.Prelude.{◌+ℤ◌, Option, Some, None}
use Rattle.lay_units.specs.Units.{percentage_of}
use Rattle.lay_units.specs.declared.length.Unit.{Unit as Length}
use Rattle.lay_units.specs.declared.records.Len.{Len}
use Rattle.lay_units.specs.declared.records.Len.TheVariants.{Auto as auto, Of as of}
use Rattle.lay_units.specs.declared.records.Sides.{Sides}
use Rattle.lay_units.specs.declared.records.BlockIn.{BlockIn}
use Rattle.lay_units.specs.Lengths.{no_length}
use Rattle.lay_style.specs.declared.style.Style.{Style}
use Rattle.lay_style.specs.declared.style_lengths.LengthPercentageOrAuto.{LengthPercentageOrAuto}
use Rattle.lay_style.specs.declared.style_lengths.LengthPercentageOrAuto.TheVariants as or_auto
use Rattle.lay_style.specs.declared.style_lengths.LengthPercentage.{LengthPercentage}
use Rattle.lay_style.specs.declared.style_lengths.LengthPercentage.TheVariants as measure
use Rattle.lay_style.specs.declared.style_lengths.LengthPercentageOrNone.{LengthPercentageOrNone}
use Rattle.lay_style.specs.declared.style_lengths.LengthPercentageOrNone.TheVariants as or_none
use Rattle.lay_style.specs.LengthValues.{length_of, size_of}
use Rattle.lay_heights.specs.MinMax.{with_min_max_of}

-- a margin beside the width of the containing block
abbrev pub used_margin : Length → LengthPercentageOrAuto → Len
used_margin containing or_auto.Auto = auto
used_margin containing (or_auto.Length u) = of (length_of u.0)
used_margin containing (or_auto.Percent h) = of (length_of (percentage_of h.0 containing.0))

abbrev pub or_zero : Len → Length
or_zero auto = no_length
or_zero (of v) = v

-- a margin above or below: an auto one is zero (10.6.3), and a percentage is of the width
abbrev pub used_vertical_margin : Length → LengthPercentageOrAuto → Length
used_vertical_margin containing margin = or_zero (used_margin containing margin)

-- a `width`
abbrev pub used_width : Length → LengthPercentageOrAuto → Len
used_width containing or_auto.Auto = auto
used_width containing (or_auto.Length u) = of (size_of u.0)
used_width containing (or_auto.Percent h) = of (size_of (percentage_of h.0 containing.0))

-- a padding or a `min-width`
abbrev pub used_size : Length → LengthPercentage → Length
used_size containing (measure.Length u) = size_of u.0
used_size containing (measure.Percent h) = size_of (percentage_of h.0 containing.0)

-- a `max-width`
abbrev pub used_limit : Length → LengthPercentageOrNone → Option Length
used_limit containing or_none.None = None
used_limit containing (or_none.Length u) = Some (size_of u.0)
used_limit containing (or_none.Percent h) = Some (size_of (percentage_of h.0 containing.0))

-- A `height`, a `min-height` and a `max-height` beside the height of the containing block. Where that is auto, which
-- says that it depends on content, a percentage counts as `auto`, as 0 and as `none`.
abbrev pub used_height : Len → LengthPercentageOrAuto → Len
used_height containing or_auto.Auto = auto
used_height containing (or_auto.Length u) = of (size_of u.0)
used_height auto (or_auto.Percent h) = auto
used_height (of containing) (or_auto.Percent h) = of (size_of (percentage_of h.0 containing.0))

abbrev pub used_min_height : Len → LengthPercentage → Length
used_min_height containing (measure.Length u) = size_of u.0
used_min_height auto (measure.Percent h) = no_length
used_min_height (of containing) (measure.Percent h) = size_of (percentage_of h.0 containing.0)

abbrev pub used_max_height : Len → LengthPercentageOrNone → Option Length
used_max_height containing or_none.None = None
used_max_height containing (or_none.Length u) = Some (size_of u.0)
used_max_height auto (or_none.Percent h) = None
used_max_height (of containing) (or_none.Percent h) = Some (size_of (percentage_of h.0 containing.0))

-- the height of a content where it doesn't depend on what is in it: the used `height`, between its bounds
abbrev pub definite_height : Len → Length → Option Length → Len
definite_height auto min max = auto
definite_height (of height) min max = of (record { 0 = with_min_max_of height.0 min.0 max })

-- what the used widths of a block depend on
abbrev pub block_of : Length → Style → BlockIn
block_of containing s = record {
  containing_width = containing;
  margin_left = used_margin containing s.margin.left;
  border_left = size_of s.border.width.left.0;
  padding_left = used_size containing s.padding.left;
  width = used_width containing s.sizing.width;
  padding_right = used_size containing s.padding.right;
  border_right = size_of s.border.width.right.0;
  margin_right = used_margin containing s.margin.right;
  min_width = used_size containing s.sizing.min_width;
  max_width = used_limit containing s.sizing.max_width;
}

-- a border and a padding together
abbrev pub edge_of : Length → Length → LengthPercentage → Length
edge_of containing border padding = record { 0 = (size_of border.0).0 +ℤ (used_size containing padding).0 }

-- the border and the padding of each side; percentages of paddings, also of those above and below, are of the width
abbrev pub edges_of : Length → Style → Sides
edges_of containing s = record {
  top = edge_of containing s.border.width.top s.padding.top;
  right = edge_of containing s.border.width.right s.padding.right;
  bottom = edge_of containing s.border.width.bottom s.padding.bottom;
  left = edge_of containing s.border.width.left s.padding.left;
}
