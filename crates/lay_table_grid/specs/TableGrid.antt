-- The structure of a table (CSS 2.2, 17.2 to 17.6): its rows as they are drawn, its cells where they stand in the grid
-- (17.5), its columns, what is between them, and the borders of the table and of each cell. All of it follows from the
-- boxes and their styles alone.
use Rattle.std.specs.Prelude.{ℕ, ◌≡◌, ◌+◌, Bool, true, false, Option, Some, None}
use Rattle.std.specs.Prelude.{All, List, map, slice_get, if◌then◌else◌}
use Rattle.lay_units.specs.declared.records.Sides.{Sides}
use Rattle.lay_units.specs.Lengths.{no_length}
use Rattle.lay_style.specs.declared.style.TableStyle.{TableStyle}
use Rattle.lay_style.specs.declared.style_words.BorderCollapse.{BorderCollapse}
use Rattle.lay_style.specs.declared.style_words.BorderCollapse.TheVariants as borders
use Rattle.lay_style.specs.LengthValues.{size_of}
use Rattle.lay_box_tree.specs.declared.box_tree.BoxNode.{BoxNode}
use Rattle.lay_grid.specs.declared.cells.Cell.{Cell}
use Rattle.lay_table_grid.specs.declared.rows.TableRow.{TableRow}
use Rattle.lay_table_grid.specs.declared.placed.PlacedCell.{PlacedCell}
use Rattle.lay_table_grid.specs.TableParts.{TableParts}
use Rattle.lay_table_grid.specs.PlacedCells.{ArePlaced, column_total}
use Rattle.lay_table_grid.specs.TableBoxes.{column_boxes_of, rows_of, table_place}
use Rattle.lay_table_grid.specs.declared.cell_area.CellArea.{CellArea}
use Rattle.lay_table_grid.specs.TableBorders.{AreCellBorders, AreTableBorders, own_borders}
use Rattle.lay_table_grid.specs.declared.grid.Spacing.{Spacing}
use Rattle.lay_table_grid.specs.declared.grid.TableCell.{TableCell}

pub record TableGridValue : Type 0 where
  -- the place of the table box
  pub table : ℕ
  -- the rows as they are drawn, and the cells row by row
  pub rows : List TableRow
  pub cells : List TableCell
  -- for each column that has a box, the place of that
  pub column_boxes : List ℕ
  pub columns : ℕ
  pub spacing : Spacing
  pub collapses : Bool
  -- the used border widths of the table box
  pub borders : Sides

-- a cell where it stands
abbrev pub area_of : TableCell → CellArea
area_of cell = record { row = cell.row; column = cell.column; rows = cell.rows; columns = cell.columns }

abbrev pub stand_of : CellArea → Cell
stand_of a = record { area = record { row = a.row; end = a.row + a.rows; columns = a.columns }; left = a.column }

abbrev pub placed_of : TableCell → PlacedCell
placed_of cell = record { place = cell.place; cell = stand_of (area_of cell) }

abbrev pub placed_cells : TableGridValue → List PlacedCell
placed_cells grid = map placed_of grid.cells

abbrev pub parts_of : List BoxNode → TableGridValue → TableParts
parts_of boxes grid = record {
  boxes = boxes;
  table = grid.table;
  rows = grid.rows;
  cells = placed_cells grid;
  column_boxes = grid.column_boxes;
  columns = grid.columns;
}

-- whether borders collapse, by the style of the table box
abbrev pub collapsing : BorderCollapse → Bool
collapsing borders.Collapse = true
collapsing borders.Separate = false

abbrev pub collapses_in : Option BoxNode → Bool
collapses_in None = false
collapses_in (Some box) = collapsing box.style.table.border_collapse

abbrev pub no_spacing : Spacing
no_spacing = record { across = no_length; down = no_length }

-- 17.6.1, in the collapsing model there are no spacings
abbrev pub spacing_by : TableStyle → Spacing
spacing_by style =
    if collapsing style.border_collapse then no_spacing
    else record { across = size_of style.border_spacing.horizontal.0; down = size_of style.border_spacing.vertical.0 }

abbrev pub spacing_in : Option BoxNode → Spacing
spacing_in None = no_spacing
spacing_in (Some box) = spacing_by box.style.table

-- a cell has the borders of its style
abbrev pub IsSeparate : List BoxNode → TableCell → Type 0
IsSeparate boxes cell = cell.borders ≡ own_borders (slice_get boxes cell.place)

-- a cell has its part of the borders at its edges
abbrev pub IsCollapsed : TableParts → TableCell → Type 0
IsCollapsed p cell = AreCellBorders p (area_of cell) cell.borders

-- the cells and the table box have these borders
pub record HaveBorders (boxes : List BoxNode) (grid : TableGridValue) : Type 0 where
  pub separate_cells : grid.collapses ≡ false → All (IsSeparate boxes) grid.cells
  pub separate_table : grid.collapses ≡ false → grid.borders ≡ own_borders (slice_get boxes grid.table)
  pub collapsed_cells : grid.collapses ≡ true → All (IsCollapsed (parts_of boxes grid)) grid.cells
  pub collapsed_table : grid.collapses ≡ true → AreTableBorders (parts_of boxes grid) grid.borders

pub record IsTableGrid (boxes : List BoxNode) (grid : TableGridValue) : Type 0 where
  pub table : grid.table ≡ table_place boxes
  pub rows : grid.rows ≡ rows_of boxes
  pub cells : ArePlaced boxes grid.rows (placed_cells grid)
  pub column_boxes : grid.column_boxes ≡ column_boxes_of boxes
  pub columns : grid.columns ≡ column_total grid.column_boxes (placed_cells grid)
  pub collapses : grid.collapses ≡ collapses_in (slice_get boxes grid.table)
  pub spacing : grid.spacing ≡ spacing_in (slice_get boxes grid.table)
  pub borders : HaveBorders boxes grid
