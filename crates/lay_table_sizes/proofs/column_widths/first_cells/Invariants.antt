use Rattle.std.proofs.Common.{◌≡◌, ◌++◌, drop}
use Rattle.lay_table_sizes.specs.ColumnWidths.{first_cells}
use Rattle.lay_table_sizes.proofs.column_widths.first_cells.Given as goal

abbrev pub invariant-loop-cell : goal.invariant-loop-cell
invariant-loop-cell l = l.first.items ++ first_cells l.table l.left l.boxes (drop l.cell-index l.grid.cells) ≡ first_cells l.table l.left l.boxes l.grid.cells
