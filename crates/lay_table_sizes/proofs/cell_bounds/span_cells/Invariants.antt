use Rattle.std.proofs.Common.{◌≡◌, ◌++◌, drop}
use Rattle.std.specs.List.{All}
use Rattle.lay_grid.specs.Automatic.Fit.{CellFits}
use Rattle.lay_table_sizes.specs.CellBounds.{span_cells}
use Rattle.lay_table_sizes.proofs.cell_bounds.span_cells.Given as goal

abbrev pub invariant-loop-k : goal.invariant-loop-k
invariant-loop-k l = record {
  value : l.cells.items ++ span_cells l.boxes l.inner (drop l.k l.grid.cells) ≡ span_cells l.boxes l.inner l.grid.cells;
  fit : All (CellFits l.grid.columns) l.cells.items;
}
