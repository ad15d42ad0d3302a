-- The cells of a table's rows where they stand in the grid (CSS 2.2, 17.5), each with the place of its box.
use Rattle.std.specs.Prelude.{ℕ, ◌≡◌, max, List, [], length, map}
use Rattle.lay_box_tree.specs.declared.box_tree.BoxNode.{BoxNode}
use Rattle.lay_grid.specs.declared.cells.Cell.{Cell}
use Rattle.lay_grid.specs.Areas.{areas_from}
use Rattle.lay_grid.specs.Places.{StandAfter, areas_of}
use Rattle.lay_grid.specs.Slots.{columns_of}
use Rattle.lay_table_grid.specs.declared.rows.TableRow.{TableRow}
use Rattle.lay_table_grid.specs.declared.placed.PlacedCell.{PlacedCell}
use Rattle.lay_table_grid.specs.TableBoxes.{cells_of_rows, row_specs}

abbrev pub stands_of : List PlacedCell → List Cell
stands_of cells = map (λ placed. placed.cell) cells

abbrev pub places_of_cells : List PlacedCell → List ℕ
places_of_cells cells = map (λ placed. placed.place) cells

-- these are the cells of the rows, row by row, where they stand
pub record ArePlaced (boxes : List BoxNode) (rows : List TableRow) (cells : List PlacedCell) : Type 0 where
  pub places : places_of_cells cells ≡ cells_of_rows boxes rows
  pub areas : areas_of (stands_of cells) ≡ areas_from 0 (row_specs boxes rows)
  pub stand : StandAfter [] (stands_of cells)

-- how many columns a table has: those that have boxes, and as many as its cells need
abbrev pub column_total : List ℕ → List PlacedCell → ℕ
column_total column_boxes cells = max (length column_boxes) (columns_of (stands_of cells))
