-- What the type of a table's parts says of them: cells that stand cover a slot at least and lie inside the grid, and counts are
-- below 2^32.
use Rattle.std.specs.Prelude.{ℕ, ◌^◌, ◌<◌, ◌≤◌, length, All}
use Rattle.lay_grid.specs.Places.{right_edge}
use Rattle.lay_table_grid.specs.declared.placed.PlacedCell.{PlacedCell}
use Rattle.lay_table_grid.specs.TableParts.{TableParts}

-- a cell covers some rows, all of them among so many, and some columns
pub record CoversRows (rows : ℕ) (placed : PlacedCell) : Type 0 where
  pub some_rows : placed.cell.area.row < placed.cell.area.end
  pub last_row : placed.cell.area.end ≤ rows
  pub some_columns : 1 ≤ placed.cell.area.columns

-- and all these among so many
pub record IsPlacedInGrid (rows columns : ℕ) (placed : PlacedCell) : Type 0 where
  pub covers : CoversRows rows placed
  pub last_column : right_edge placed.cell ≤ columns

-- counts fit, and cells lie inside the grid
pub record TablePartsFit (p : TableParts) : Type 0 where
  pub rows : length p.rows < 2 ^ 32
  pub columns : p.columns < 2 ^ 32
  pub column_boxes : length p.column_boxes ≤ p.columns
  pub cells : All (IsPlacedInGrid (length p.rows) p.columns) p.cells
  pub few : length p.cells < 2 ^ 32
