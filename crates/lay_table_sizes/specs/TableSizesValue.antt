-- The columns and the cells of a table as they are used: the grid, the width of each column, and for each box of the table's
-- formatting context the size of the cell whose box it is. Columns are held within the bounds of used lengths (CSS 2.2, 4.3.2); a cell
-- over many may be wider.
use Rattle.std.specs.Prelude.{ℕ, ◌≡◌, All, List, length, Option, None, slice_index_or}
use Rattle.lay_units.specs.Units.{IsUsedSize}
use Rattle.lay_units.specs.declared.length.Unit.{Unit as Length}
use Rattle.lay_table_grid.specs.TableGrid.{TableGridValue}
use Rattle.lay_table_sizes.specs.declared.cell_size.CellSize.{CellSize}

pub record TableSizesValue : Type 0 where
  pub grid : TableGridValue
  pub columns : List Length
  pub cells : List (Option CellSize)

-- the cell whose box stands at k
abbrev pub cell_at : TableSizesValue → ℕ → Option CellSize
cell_at t k = slice_index_or t.cells k None

pub record TableSizesFit (t : TableSizesValue) : Type 0 where
  pub as_many : length t.columns ≡ t.grid.columns
  pub columns : All (λ (width : Length). IsUsedSize width.0) t.columns
