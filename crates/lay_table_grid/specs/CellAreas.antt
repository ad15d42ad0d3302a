-- The slots that a cell covers are one at least, and lie inside the grid (CSS 2.2, 17.5).
use Rattle.std.specs.Prelude.{ℕ, ◌+◌, ◌≤◌}
use Rattle.lay_table_grid.specs.declared.cell_area.CellArea.{CellArea}

pub record IsInsideGrid (rows columns : ℕ) (a : CellArea) : Type 0 where
  pub some_rows : 1 ≤ a.rows
  pub some_columns : 1 ≤ a.columns
  pub last_row : a.row + a.rows ≤ rows
  pub last_column : a.column + a.columns ≤ columns
