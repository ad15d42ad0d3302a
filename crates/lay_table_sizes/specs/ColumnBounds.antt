-- The bounds of the columns of a table in the automatic layout (CSS 2.2, 17.5.2.2), by its cells, column elements and column groups, and
-- how wide the columns are together at these, with the spacings before each and after the last (17.6.1).
use Rattle.std.specs.Prelude.{ℕ, zero, suc, ◌+◌, ℤ, pos, ◌+ℤ◌, ◌*ℤ◌, List}
use Rattle.lay_units.specs.declared.length.Unit.{Unit as Length}
use Rattle.lay_box_tree.specs.declared.box_tree.BoxNode.{BoxNode}
use Rattle.lay_measure.specs.declared.preferred_widths.PreferredWidths.{PreferredWidths}
use Rattle.lay_grid.specs.Automatic.AutoColumns.{sum_max, sum_min}
use Rattle.lay_grid.specs.Automatic.Bounds.{AreBounds}
use Rattle.lay_grid.specs.declared.automatic.bounds.Bound.{Bound}
use Rattle.lay_grid.specs.declared.automatic.bounds.BoundsIn.{BoundsIn}
use Rattle.lay_table_grid.specs.TableGrid.{TableGridValue}
use Rattle.lay_table_sizes.specs.CellBounds.{span_cells}
use Rattle.lay_table_sizes.specs.GivenWidths.{column_widths}
use Rattle.lay_table_sizes.specs.GroupWidths.{group_spans}

-- what they depend on
abbrev pub bounds_in : List BoxNode → List PreferredWidths → TableGridValue → BoundsIn
bounds_in boxes inner g = record {
  given = column_widths boxes g.column_boxes g.columns;
  cells = span_cells boxes inner g.cells;
  groups = group_spans boxes g.column_boxes;
  spacing = g.spacing.across;
}

-- these are the bounds of the columns of the table of these boxes, where the preferred widths at `inner` are of what is in its cells
abbrev pub AreTableBounds : List BoxNode → List PreferredWidths → TableGridValue → List Bound → Type 0
AreTableBounds boxes inner g bounds = AreBounds (bounds_in boxes inner g) bounds

-- the spacings beside so many columns; where there are none, there are no spacings
abbrev pub spaces_of : Length → ℕ → ℤ
spaces_of spacing zero = pos 0
spaces_of spacing (suc n) = spacing.0 *ℤ pos (n + 2)

abbrev pub spaces : TableGridValue → ℤ
spaces g = spaces_of g.spacing.across g.columns

-- the columns together at their minimums and at their maximums, with the spacings
abbrev pub least_content : TableGridValue → List Bound → ℤ
least_content g bounds = sum_min bounds +ℤ spaces g

abbrev pub greatest_content : TableGridValue → List Bound → ℤ
greatest_content g bounds = sum_max bounds +ℤ spaces g
