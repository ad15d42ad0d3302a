use Rattle.std.proofs.Common.{◌≡◌, All, length, map, take}
use Rattle.lay_table_grid.specs.GridBounds.{CellFits}
use Rattle.lay_table_grid.specs.TableGrid.{IsSeparate, placed_of}
use Rattle.lay_table_grid.proofs.bordered.separate_cells.Given as goal

abbrev pub invariant-loop-placed : goal.invariant-loop-placed
invariant-loop-placed l = record {
  placed : map placed_of l.cells.items ≡ take l.placed-index l.fn.parts.cells;
  borders : All (IsSeparate l.fn.parts.boxes) l.cells.items;
  fit : All (CellFits (length l.fn.parts.rows) l.fn.parts.columns) l.cells.items;
}
