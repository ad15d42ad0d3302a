-- The parts of a table (CSS 2.2, 17.2, 17.3 and 17.5), as its boxes have them: which is the table box, its rows as they are drawn, its
-- cells where they stand in the grid, and its columns. The borders of a table depend on these and on the styles of its boxes.
use Rattle.std.specs.Prelude.{ℕ, ◌≡◌, List}
use Rattle.lay_box_tree.specs.declared.box_tree.BoxNode.{BoxNode}
use Rattle.lay_table_grid.specs.declared.placed.PlacedCell.{PlacedCell}
use Rattle.lay_table_grid.specs.declared.rows.TableRow.{TableRow}
use Rattle.lay_table_grid.specs.PlacedCells.{ArePlaced, column_total}
use Rattle.lay_table_grid.specs.TableBoxes.{column_boxes_of, rows_of, table_place}

-- its boxes, the place of the table box, its rows, its cells where they stand, the boxes of its columns, and how many columns
-- there are
pub record TableParts : Type 0 where
  pub boxes : List BoxNode
  pub table : ℕ
  pub rows : List TableRow
  pub cells : List PlacedCell
  pub column_boxes : List ℕ
  pub columns : ℕ

-- these are the parts of the table of a list of boxes
pub record ArePartsOf (boxes : List BoxNode) (p : TableParts) : Type 0 where
  pub boxes_are : p.boxes ≡ boxes
  pub table : p.table ≡ table_place boxes
  pub rows : p.rows ≡ rows_of boxes
  pub cells : ArePlaced boxes p.rows p.cells
  pub column_boxes : p.column_boxes ≡ column_boxes_of boxes
  pub columns : p.columns ≡ column_total p.column_boxes p.cells
