use Rattle.std.proofs.Common.{◌≡◌, All, length, map, take}
use Rattle.lay_table_grid.specs.GridBounds.{CellFits}
use Rattle.lay_table_grid.specs.TableGrid.{IsCollapsed, placed_of}
use Rattle.lay_table_grid.proofs.bordered.cells_between.Given as goal

abbrev pub invariant-loop-cell : goal.invariant-loop-cell
invariant-loop-cell l = record {
  placed : map placed_of l.cells.items ≡ take l.cell-index l.placed;
  borders : All (IsCollapsed l.fn.edges) l.cells.items;
  fit : All (CellFits (length l.fn.edges.rows) l.fn.edges.columns) l.cells.items;
}
