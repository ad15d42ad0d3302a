-- A table box and its wrapper beside their containing block (CSS 2.2, 17.4, 17.5.2 and 17.6). Margins are used on the wrapper,
-- and `width`, `height`, their bounds, borders and paddings on the table box, whose percentages are of the containing block of
-- the wrapper. "In the collapsing border model ... a table does not have padding" (17.6.2).
use Rattle.std.specs.Prelude.{◌+ℤ◌, ℤ, List, if◌then◌else◌}
use Rattle.lay_units.specs.declared.length.Unit.{Unit as Length}
use Rattle.lay_units.specs.declared.records.BlockIn.{BlockIn}
use Rattle.lay_units.specs.declared.records.Sides.{Sides}
use Rattle.lay_units.specs.Lengths.{no_length}
use Rattle.lay_style.specs.declared.style.Style.{Style}
use Rattle.lay_style.specs.declared.style_lengths.LengthPercentage.{LengthPercentage}
use Rattle.lay_box_tree.specs.BoxColumns.{style_of_box}
use Rattle.lay_box_tree.specs.declared.box_tree.BoxNode.{BoxNode}
use Rattle.lay_sizes.specs.UsedLengths.{used_limit, used_margin, used_size, used_width}
use Rattle.lay_measure.specs.Contributions.{size_or_zero}
use Rattle.lay_table_grid.specs.TableGrid.{TableGridValue}

-- the wrapper stands first
abbrev pub wrapper_style : List BoxNode → Style
wrapper_style boxes = style_of_box boxes 0

abbrev pub style_of_table : List BoxNode → TableGridValue → Style
style_of_table boxes g = style_of_box boxes g.table

-- a padding of the table box, beside the width of the wrapper's containing block
abbrev pub table_padding : TableGridValue → Length → LengthPercentage → Length
table_padding g containing padding = if g.collapses then no_length else used_size containing padding

abbrev pub inset : Length → Length → Length
inset border padding = record { 0 = border.0 +ℤ padding.0 }

-- the border and the padding of each side of the table box
abbrev pub table_edges : TableGridValue → Length → Style → Sides
table_edges g containing s = record {
  top = inset g.borders.top (table_padding g containing s.padding.top);
  right = inset g.borders.right (table_padding g containing s.padding.right);
  bottom = inset g.borders.bottom (table_padding g containing s.padding.bottom);
  left = inset g.borders.left (table_padding g containing s.padding.left);
}

-- what the width of a table depends on: the wrapper's margins, and all else of the table box, of which `s` is the style
abbrev pub table_block : TableGridValue → Length → (wrapper s : Style) → BlockIn
table_block g containing wrapper s = record {
  containing_width = containing;
  margin_left = used_margin containing wrapper.margin.left;
  border_left = g.borders.left;
  padding_left = table_padding g containing s.padding.left;
  width = used_width containing s.sizing.width;
  padding_right = table_padding g containing s.padding.right;
  border_right = g.borders.right;
  margin_right = used_margin containing wrapper.margin.right;
  min_width = used_size containing s.sizing.min_width;
  max_width = used_limit containing s.sizing.max_width;
}

-- the same borders and paddings where the containing block isn't known yet, of which preferred widths are: a percentage counts as 0
abbrev pub preferred_padding : TableGridValue → LengthPercentage → Length
preferred_padding g padding = if g.collapses then no_length else size_or_zero padding

abbrev pub preferred_edges : TableGridValue → Style → ℤ
preferred_edges g s =
    (inset g.borders.left (preferred_padding g s.padding.left)).0 +ℤ (inset g.borders.right (preferred_padding g s.padding.right)).0
