-- What the type of a table's structure says of it: each cell covers a slot at least and lies inside the grid, and its
-- lengths are used sizes.
use Rattle.std.specs.Prelude.{ℕ, ◌+◌, ◌<◌, ◌≤◌, length, All}
use Rattle.lay_units.specs.Units.{IsUsedSize}
use Rattle.lay_table_grid.specs.declared.rows.TableRow.{TableRow}
use Rattle.lay_table_grid.specs.UsedSides.{AreUsedSides}
use Rattle.lay_table_grid.specs.declared.grid.Spacing.{Spacing}
use Rattle.lay_table_grid.specs.declared.grid.TableCell.{TableCell}
use Rattle.lay_table_grid.specs.TableGrid.{TableGridValue}

pub record CellFits (rows columns : ℕ) (cell : TableCell) : Type 0 where
  pub some_rows : 1 ≤ cell.rows
  pub some_columns : 1 ≤ cell.columns
  pub last_row : cell.row + cell.rows ≤ rows
  pub last_column : cell.column + cell.columns ≤ columns
  pub borders : AreUsedSides cell.borders

pub record IsUsedSpacing (spacing : Spacing) : Type 0 where
  pub across : IsUsedSize spacing.across.0
  pub down : IsUsedSize spacing.down.0

pub record TableGridFits (grid : TableGridValue) : Type 0 where
  pub cells : All (CellFits (length grid.rows) grid.columns) grid.cells
  pub column_boxes : length grid.column_boxes ≤ grid.columns
  pub spacing : IsUsedSpacing grid.spacing
  pub borders : AreUsedSides grid.borders

-- its boxes are some of so many
pub record PlacesAreBelow (count : ℕ) (grid : TableGridValue) : Type 0 where
  pub table : grid.table < count
  pub rows : All (λ (row : TableRow). row.place < count) grid.rows
  pub cells : All (λ (cell : TableCell). cell.place < count) grid.cells
  pub column_boxes : All (λ (k : ℕ). k < count) grid.column_boxes
