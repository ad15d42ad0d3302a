-- What the equations of an absolutely positioned box stand over (CSS 2.2, 10.3.7, 10.3.8, 10.6.4 and 10.6.5), across and down:
-- percentages are of its containing block, those of margins and paddings of its width. Of a replaced element the used size is a
-- given one. So it is of a table, whose wrapper has the margins and offsets alone: it has its size by the table's own rules.
use Rattle.std.specs.Prelude.{◌-ℤ◌, Option, None, Some}
use Rattle.lay_units.specs.declared.length.Unit.{Unit as Length}
use Rattle.lay_units.specs.declared.records.BlockIn.{BlockIn}
use Rattle.lay_units.specs.declared.records.Len.{Len}
use Rattle.lay_units.specs.Lengths.{no_length}
use Rattle.lay_style.specs.declared.style.Style.{Style}
use Rattle.lay_style.specs.LengthValues.{size_of}
use Rattle.lay_box_tree.specs.declared.box_tree.BoxKind.{BoxKind}
use Rattle.lay_box_tree.specs.declared.box_tree.BoxKind.TheVariants as kind
use Rattle.lay_sizes.specs.declared.replaced.NaturalSize.{NaturalSize}
use Rattle.lay_sizes.specs.declared.sizing.ContainingBlock.{ContainingBlock}
use Rattle.lay_sizes.specs.BoxSizes.{height_of, max_height_of, min_height_of, with_width}
use Rattle.lay_sizes.specs.ReplacedBoxes.{replaced_size_of}
use Rattle.lay_sizes.specs.UsedLengths.{block_of, edges_of, used_margin, used_size}
use Rattle.lay_abspos.specs.declared.axis.Axis.{Axis}
use Rattle.lay_abspos.specs.declared.axis.ContentSize.{ContentSize}
use Rattle.lay_abspos.specs.declared.setting.AbsoluteSetting.{AbsoluteSetting}

-- this block between these offsets
abbrev pub axis_across : AbsoluteSetting → Style → BlockIn → ContentSize → Axis
axis_across s style block content = record {
  block = block;
  left = used_margin s.rect.w style.offset.left;
  right = used_margin s.rect.w style.offset.right;
  static_left = s.static_left;
  content = content;
}

abbrev pub axis_down : AbsoluteSetting → Style → BlockIn → ContentSize → Axis
axis_down s style block content = record {
  block = block;
  left = used_margin s.rect.h style.offset.top;
  right = used_margin s.rect.h style.offset.bottom;
  static_left = s.static_top;
  content = content;
}

-- the natural size of a replaced element
abbrev pub natural_in : BoxKind → Option NaturalSize
natural_in (kind.Replaced w h inline) = Some (record { width = w; height = h })
natural_in _ = None

-- across, of a box that is no table
abbrev pub block_across : ContainingBlock → Option NaturalSize → Style → BlockIn
block_across containing None style = block_of containing.width style
block_across containing (Some natural) style =
    with_width (block_of containing.width style) (replaced_size_of containing natural style).width

-- and down
abbrev pub block_down : ContainingBlock → Option NaturalSize → Style → Length → BlockIn
block_down containing natural style height = record {
  containing_width = height;
  margin_left = used_margin containing.width style.margin.top;
  border_left = size_of style.border.width.top.0;
  padding_left = used_size containing.width style.padding.top;
  width = height_of containing natural style;
  padding_right = used_size containing.width style.padding.bottom;
  border_right = size_of style.border.width.bottom.0;
  margin_right = used_margin containing.width style.margin.bottom;
  min_width = min_height_of containing natural style;
  max_width = max_height_of containing natural style;
}

-- the height of the content of a border box that is so high
abbrev pub content_box_height : ContainingBlock → Style → Length → Length
content_box_height containing style height =
    record { 0 = height.0 -ℤ (edges_of containing.width style).top.0 -ℤ (edges_of containing.width style).bottom.0 }

-- a box without borders and paddings, between these margins
abbrev pub block_without_edges : Length → Len → Len → Len → BlockIn
block_without_edges containing before size after = record {
  containing_width = containing;
  margin_left = before;
  border_left = no_length;
  padding_left = no_length;
  width = size;
  padding_right = no_length;
  border_right = no_length;
  margin_right = after;
  min_width = no_length;
  max_width = None;
}

-- the wrapper of a table, across and down
abbrev pub wrapper_across : AbsoluteSetting → Style → Len → BlockIn
wrapper_across s style width =
    block_without_edges s.rect.w (used_margin s.rect.w style.margin.left) width (used_margin s.rect.w style.margin.right)

abbrev pub wrapper_down : AbsoluteSetting → Style → Len → BlockIn
wrapper_down s style height =
    block_without_edges s.rect.h (used_margin s.rect.w style.margin.top) height (used_margin s.rect.w style.margin.bottom)
