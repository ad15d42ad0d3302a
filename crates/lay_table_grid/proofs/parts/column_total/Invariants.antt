use Rattle.std.proofs.Common.{◌≡◌, ℕ, ◌<◌, ◌≤◌, max, drop, get_or}
use Rattle.lay_grid.specs.Places.{right_edge}
use Rattle.lay_grid.specs.Slots.{columns_of}
use Rattle.lay_table_grid.specs.declared.placed.PlacedCell.{PlacedCell}
use Rattle.lay_table_grid.specs.PlacedCells.{column_total, stands_of}
use Rattle.lay_table_grid.proofs.parts.column_total.Given as goal

abbrev pub invariant-loop-placed : goal.invariant-loop-placed
invariant-loop-placed l = record {
  total : max l.columns (columns_of (stands_of (drop l.placed-index l.cells))) ≡ column_total l.fn.column_boxes l.cells;
  edges : (k : ℕ) (d : PlacedCell) → k < l.placed-index → right_edge (get_or l.cells k d).cell ≤ l.columns;
}
