-- A list of boxes has one table, with one list of each of its parts. The slots and the columns of the grid of its rows (CSS 2.2, 17.5) are
-- those that its cells cover and need where they stand.
use Rattle.std.specs.Prelude.{◌≡◌, List}
use Rattle.lay_box_tree.specs.declared.box_tree.BoxNode.{BoxNode}
use Rattle.lay_grid.specs.declared.cells.Grid.{Grid}
use Rattle.lay_grid.specs.Slots.{IsGrid, columns_of, slots_from}
use Rattle.lay_table_grid.specs.declared.placed.PlacedCell.{PlacedCell}
use Rattle.lay_table_grid.specs.declared.rows.TableRow.{TableRow}
use Rattle.lay_table_grid.specs.PlacedCells.{ArePlaced, stands_of}
use Rattle.lay_table_grid.specs.TableBoxes.{row_specs}
use Rattle.lay_table_grid.specs.TableParts.{ArePartsOf, TableParts}

abbrev pub OneTableParts : Type 0
OneTableParts = (boxes : List BoxNode) (p q : TableParts) → ArePartsOf boxes p → ArePartsOf boxes q → p ≡ q

-- the grid that has these cells
pub record IsGridOf (cells : List PlacedCell) (grid : Grid) : Type 0 where
  pub slots : grid.slots ≡ slots_from 0 (stands_of cells)
  pub columns : grid.columns ≡ columns_of (stands_of cells)

abbrev pub GridsAreOfPlacedCells : Type 0
GridsAreOfPlacedCells = (boxes : List BoxNode) (rows : List TableRow) (cells : List PlacedCell) (grid : Grid)
    → ArePlaced boxes rows cells → IsGrid (row_specs boxes rows) grid → IsGridOf cells grid
