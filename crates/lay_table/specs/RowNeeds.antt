-- What the heights of a table's rows depend on (CSS 2.2, 17.5.3). That of a row "is the maximum of the row's computed 'height', the
-- computed 'height' of each cell in the row, and the minimum height (MIN) required by the cells." The `height` of a cell is that
-- of its content, and its border box doesn't move with its baseline. What its content needs is the border box that the cell has by
-- its content alone, and where the cell is at the baseline of its row, it stands with its own baseline there. Row groups have no
-- height of their own. A percentage is of the height of the table, where that is given; of a row it counts as auto.
use Rattle.std.specs.Prelude.{ℕ, zero, suc, ◌+◌, pos, ◌+ℤ◌, ◌-ℤ◌, ◌*ℤ◌, List, [], ◌∷◌, ◌++◌, length, slice_index_or, Option, Some, None}
use Rattle.std.specs.Int.{int_max}
use Rattle.std.specs.Option.{unwrap_or}
use Rattle.lay_units.specs.declared.length.Unit.{Unit as Length}
use Rattle.lay_units.specs.declared.records.Len.{Len}
use Rattle.lay_units.specs.declared.records.Len.TheVariants.{Auto as auto, Of as of}
use Rattle.lay_units.specs.Lengths.{no_length}
use Rattle.lay_style.specs.declared.style.Style.{Style}
use Rattle.lay_style.specs.ComputedStyle.{style_at}
use Rattle.lay_box_tree.specs.BoxColumns.{box_styles}
use Rattle.lay_heights.specs.MinMax.{with_min_max_of}
use Rattle.lay_grid.specs.declared.heights.RowCell.{RowCell}
use Rattle.lay_grid.specs.declared.heights.RowsIn.{RowsIn}
use Rattle.lay_sizes.specs.declared.own_boxes.OwnBox.{OwnBox}
use Rattle.lay_sizes.specs.declared.sizing.BoxSizes.{BoxSizes}
use Rattle.lay_sizes.specs.OwnBoxes.{own_box_at}
use Rattle.lay_sizes.specs.SizeColumns.{no_edges, sizes_at}
use Rattle.lay_sizes.specs.UsedLengths.{or_zero, used_height}
use Rattle.lay_table_grid.specs.declared.rows.TableRow.{TableRow}
use Rattle.lay_table_grid.specs.declared.grid.TableCell.{TableCell}
use Rattle.lay_table_grid.specs.TableGrid.{TableGridValue}
use Rattle.lay_table.specs.declared.cell_align.CellAlign.{CellAlign}
use Rattle.lay_table.specs.declared.cell_align.CellAlign.TheVariants.{Baseline, Top, Middle, Bottom}
use Rattle.lay_table.specs.CellAligns.{cell_align}
use Rattle.lay_table.specs.TableInputs.{TableInput, grid_of}

-- the style of the box at this place
abbrev pub style_of : TableInput → ℕ → Style
style_of i place = style_at (box_styles i.boxes) place

abbrev pub no_cell : TableCell
no_cell = record { place = 0; row = 0; column = 0; rows = 0; columns = 0; borders = no_edges }

-- the cell c of the table, and its box by its content alone, as it is seen from outside
abbrev pub cell_of : TableInput → ℕ → TableCell
cell_of i c = slice_index_or (grid_of i).cells c no_cell

abbrev pub natural_box : TableInput → ℕ → OwnBox
natural_box i c = own_box_at i.inner (cell_of i c).place

abbrev pub align_of : TableInput → ℕ → CellAlign
align_of i c = cell_align (style_of i (cell_of i c).place).text.vertical_align

-- the spacing between rows; a table without rows has none
abbrev pub row_spacing : TableGridValue → Length
row_spacing grid = between grid.rows
  where
    between : List TableRow → Length
    between [] = no_length
    between (row ∷ rows) = grid.spacing.down

-- the height of its own that a row of this style has
abbrev pub row_own_height : Style → Length
row_own_height s = or_zero (used_height auto s.sizing.height)

abbrev pub no_row : TableRow
no_row = record { place = 0; group = 0 }

-- the style of the row r
abbrev pub row_style : TableInput → ℕ → Style
row_style i r = style_of i (slice_index_or (grid_of i).rows r no_row).place

-- those of the first n rows
abbrev pub own_heights_to : TableInput → (n : ℕ) → List Length
own_heights_to i zero = []
own_heights_to i (suc r) = own_heights_to i r ++ row_own_height (row_style i r) ∷ []

abbrev pub own_heights : TableInput → List Length
own_heights i = own_heights_to i (length (grid_of i).rows)

-- a cell that needs this height, and is at the baseline of its row or isn't
abbrev pub row_cell : TableCell → Length → Option Length → RowCell
row_cell cell height baseline = record { row = cell.row; span = cell.rows; height = height; baseline = baseline }

-- the border box around a content of this height
abbrev pub border_height : BoxSizes → Length → Length
border_height z height = record { 0 = height.0 +ℤ z.edges.top.0 +ℤ z.edges.bottom.0 }

-- The "bottom of content edge" of a cell that has this height by its content alone, from the top of its border box. The content edge
-- of a cell with a greater `height` of its own is as high as that.
abbrev pub content_edge : BoxSizes → (natural : Length) → Length
content_edge z natural = record { 0 = int_max natural.0 (border_height z (or_zero z.height)).0 -ℤ z.edges.bottom.0 }

-- a cell's own baseline, below the top of its border box: that of its first line or row in flow, and where it has none, its content edge
abbrev pub cell_baseline : OwnBox → BoxSizes → Length
cell_baseline o z = unwrap_or o.baseline (content_edge z o.height)

-- what a cell needs by its `height`, if it has one
abbrev pub need_by_height : TableCell → BoxSizes → Len → List RowCell
need_by_height cell z auto = []
need_by_height cell z (of height) = row_cell cell (border_height z height) None ∷ []

abbrev pub baseline_if : CellAlign → Length → Option Length
baseline_if Baseline baseline = Some baseline
baseline_if Top baseline = None
baseline_if Middle baseline = None
baseline_if Bottom baseline = None

-- what its content needs
abbrev pub need_by_content : TableCell → CellAlign → OwnBox → BoxSizes → RowCell
need_by_content cell align o z = row_cell cell o.height (baseline_if align (cell_baseline o z))

-- what the cell c needs, where these are the used sizes of the cells
abbrev pub needs_of_cell : TableInput → List BoxSizes → ℕ → List RowCell
needs_of_cell i cells c =
    need_by_content (cell_of i c) (align_of i c) (natural_box i c) (sizes_at cells c)
    ∷ need_by_height (cell_of i c) (sizes_at cells c) (sizes_at cells c).height

-- what the first n cells need
abbrev pub needs_to : TableInput → List BoxSizes → (n : ℕ) → List RowCell
needs_to i cells zero = []
needs_to i cells (suc c) = needs_to i cells c ++ needs_of_cell i cells c

abbrev pub needs_of : TableInput → List BoxSizes → List RowCell
needs_of i cells = needs_to i cells (length (grid_of i).cells)

-- The least height of the table's content. "The height of a table is given by the 'height' property for the 'table' or 'inline-table'
-- element", within its bounds; an auto one asks for nothing.
abbrev pub least_height : BoxSizes → Length
least_height z = record { 0 = with_min_max_of (or_zero z.height).0 z.min_height.0 z.max_height }

-- how much of it is left for the heights of so many rows with this spacing
abbrev pub left_for_rows : Length → Length → ℕ → Length
left_for_rows height spacing rows = record { 0 = height.0 -ℤ (spacing.0 *ℤ pos (rows + 1)) }

abbrev pub table_sizes : TableInput → BoxSizes
table_sizes i = sizes_at i.sizes (grid_of i).table

-- what the heights of the rows depend on
abbrev pub rows_in : TableInput → List BoxSizes → RowsIn
rows_in i cells = record {
  own = own_heights i;
  cells = needs_of i cells;
  spacing = row_spacing (grid_of i);
  total = left_for_rows (least_height (table_sizes i)) (row_spacing (grid_of i)) (length (grid_of i).rows);
}
