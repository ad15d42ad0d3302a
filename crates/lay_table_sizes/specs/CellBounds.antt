-- How narrow and how wide a cell asks its columns to be in the automatic table layout (CSS 2.2, 17.5.2.2). Its content "may span any
-- number of lines but may not overflow the cell box. If the specified 'width' (W) of the cell is greater than MCW, W is the minimum
-- cell width"; its maximum is of the content "without breaking lines other than where explicit line breaks occur", and no less than its
-- minimum. Both are of its border box. The width of the table isn't known yet, so a percentage counts as `auto` in `width` and as 0 in
-- paddings. `min-width` and `max-width` have no effect on cells, as 10.4 leaves that undefined.
--
-- A cell of 300 to 900 units of content, with the `width` 500 and a padding of 10 on both sides: 520 to 920.
use Rattle.std.specs.Prelude.{ℕ, ℤ, ◌+ℤ◌, List, map, slice_index_or}
use Rattle.std.specs.Int.{int_max}
use Rattle.lay_units.specs.declared.records.Sides.{Sides}
use Rattle.lay_units.specs.Lengths.{no_length}
use Rattle.lay_style.specs.declared.style.Style.{Style}
use Rattle.lay_box_tree.specs.BoxColumns.{style_of_box}
use Rattle.lay_box_tree.specs.declared.box_tree.BoxNode.{BoxNode}
use Rattle.lay_measure.specs.Contributions.{given_or, size_or_zero}
use Rattle.lay_measure.specs.MeasureInValue.{no_widths}
use Rattle.lay_measure.specs.declared.preferred_widths.PreferredWidths.{PreferredWidths}
use Rattle.lay_grid.specs.declared.automatic.bounds.SpanCell.{SpanCell}
use Rattle.lay_table_grid.specs.declared.grid.TableCell.{TableCell}

-- the borders and paddings of a cell on its left and right
abbrev pub cell_edges : Sides → Style → ℤ
cell_edges borders s =
    borders.left.0 +ℤ (size_or_zero s.padding.left).0 +ℤ ((size_or_zero s.padding.right).0 +ℤ borders.right.0)

abbrev pub cell_minimum : Sides → Style → PreferredWidths → ℤ
cell_minimum borders s content = int_max content.minimum.0 (given_or s.sizing.width no_length).0 +ℤ cell_edges borders s

abbrev pub cell_maximum : Sides → Style → PreferredWidths → ℤ
cell_maximum borders s content = int_max (content.preferred.0 +ℤ cell_edges borders s) (cell_minimum borders s content)

-- the preferred widths at the place of a box
abbrev pub widths_at : List PreferredWidths → ℕ → PreferredWidths
widths_at inner k = slice_index_or inner k no_widths

-- what a cell asks for
abbrev pub span_cell : List BoxNode → List PreferredWidths → TableCell → SpanCell
span_cell boxes inner c = record {
  column = c.column;
  span = c.columns;
  min = record { 0 = cell_minimum c.borders (style_of_box boxes c.place) (widths_at inner c.place) };
  max = record { 0 = cell_maximum c.borders (style_of_box boxes c.place) (widths_at inner c.place) };
}

abbrev pub span_cells : List BoxNode → List PreferredWidths → List TableCell → List SpanCell
span_cells boxes inner cells = map (span_cell boxes inner) cells
