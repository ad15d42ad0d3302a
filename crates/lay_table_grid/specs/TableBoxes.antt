-- Which boxes of a table's formatting context are its table box, its rows, its cells and its columns (CSS 2.2, 17.2).
-- Each is known by its place in the list of boxes. A box is what its kind says, and stands in the box that is its
-- parent.
--
-- The rows of the first header group come first and those of the first footer group last. All other rows stand between
-- them as in the document.
use Rattle.std.specs.Prelude.{ℕ, zero, suc, ◌+◌, ◌==◌, ◌&&◌, ◌||◌, not, max, Bool, true, false, Option, Some, None}
use Rattle.std.specs.Prelude.{List, [], ◌∷◌, ◌++◌, length, map, replicate, slice_get, slice_index, slice_index_or, if◌then◌else◌}
use Rattle.std.specs.List.{list_any}
use Rattle.lay_box_tree.specs.declared.box_tree.BoxKind.{BoxKind}
use Rattle.lay_box_tree.specs.declared.box_tree.BoxKind.TheVariants as kind
use Rattle.lay_box_tree.specs.declared.box_tree.BoxNode.{BoxNode}
use Rattle.lay_box_tree.specs.Kinds.{is_cell_kind}
use Rattle.lay_box_tree.specs.Containers.{box_parent}
use Rattle.lay_grid.specs.declared.cells.RowSpec.{RowSpec}
use Rattle.lay_grid.specs.declared.cells.Span.{Span}
use Rattle.lay_table_grid.specs.declared.rows.TableRow.{TableRow}

abbrev pub is_table_kind : BoxKind → Bool
is_table_kind kind.Table = true
is_table_kind _ = false

abbrev pub is_header_group : BoxKind → Bool
is_header_group kind.HeaderGroup = true
is_header_group _ = false

abbrev pub is_footer_group : BoxKind → Bool
is_footer_group kind.FooterGroup = true
is_footer_group _ = false

-- one of the three kinds of row groups
abbrev pub is_row_group_kind : BoxKind → Bool
is_row_group_kind kind.RowGroup = true
is_row_group_kind kind.HeaderGroup = true
is_row_group_kind kind.FooterGroup = true
is_row_group_kind _ = false

abbrev pub is_row_kind : BoxKind → Bool
is_row_kind kind.Row = true
is_row_kind _ = false

abbrev pub is_column_kind : BoxKind → Bool
is_column_kind (kind.Column span) = true
is_column_kind _ = false

abbrev pub is_column_group_kind : BoxKind → Bool
is_column_group_kind (kind.ColumnGroup span) = true
is_column_group_kind _ = false

abbrev pub kind_at : List BoxNode → ℕ → BoxKind
kind_at boxes k = slice_index_or (map (λ b. b.kind) boxes) k kind.Block

-- the places of the boxes that pass a test, in order, where the first box stands at k
abbrev pub places_from : (BoxNode → Bool) → ℕ → List BoxNode → List ℕ
places_from test k [] = []
places_from test k (box ∷ boxes) =
    if test box then k ∷ places_from test (k + 1) boxes else places_from test (k + 1) boxes

abbrev pub places_of : (BoxNode → Bool) → List BoxNode → List ℕ
places_of test boxes = places_from test 0 boxes

-- the table box
abbrev pub table_place : List BoxNode → ℕ
table_place boxes = slice_index (places_of (λ b. is_table_kind b.kind) boxes) 0

-- the first header group and the first footer group, if there is one
abbrev pub header_place : List BoxNode → Option ℕ
header_place boxes = slice_get (places_of (λ b. is_header_group b.kind) boxes) 0

abbrev pub footer_place : List BoxNode → Option ℕ
footer_place boxes = slice_get (places_of (λ b. is_footer_group b.kind) boxes) 0

abbrev pub is_place : Option ℕ → ℕ → Bool
is_place None k = false
is_place (Some place) k = place == k

-- a box stands in the one at this place
abbrev pub is_in : Option ℕ → BoxNode → Bool
is_in None box = false
is_in (Some place) box = box.parent == place

-- where a row is drawn: 0 in the first header group, 2 in the first footer group, and 1 elsewhere
abbrev pub rank_of : Option ℕ → Option ℕ → BoxNode → ℕ
rank_of header footer box = if is_in header box then 0 else (if is_in footer box then 2 else 1)

abbrev pub is_ranked : List BoxNode → ℕ → BoxNode → Bool
is_ranked boxes rank box =
    is_row_kind box.kind && (rank_of (header_place boxes) (footer_place boxes) box == rank)

abbrev pub ranked_places : List BoxNode → ℕ → List ℕ
ranked_places boxes rank = places_of (is_ranked boxes rank) boxes

-- the places of the rows as they are drawn
abbrev pub drawn_row_places : List BoxNode → List ℕ
drawn_row_places boxes = ranked_places boxes 0 ++ (ranked_places boxes 1 ++ ranked_places boxes 2)

-- a row, and what it stands in: its row group or the table box
abbrev pub row_at : List BoxNode → ℕ → TableRow
row_at boxes k = record { place = k; group = box_parent boxes k }

abbrev pub rows_of : List BoxNode → List TableRow
rows_of boxes = map (row_at boxes) (drawn_row_places boxes)

-- the cells of the row at this place
abbrev pub is_cell_of : ℕ → BoxNode → Bool
is_cell_of row box = is_cell_kind box.kind && (box.parent == row)

abbrev pub cells_of_row : List BoxNode → ℕ → List ℕ
cells_of_row boxes row = places_of (is_cell_of row) boxes

-- the cells of all rows, row by row
abbrev pub cells_of_rows : List BoxNode → List TableRow → List ℕ
cells_of_rows boxes [] = []
cells_of_rows boxes (row ∷ rows) = cells_of_row boxes row.place ++ cells_of_rows boxes rows

-- what a cell spans, which is one row and one column at least
abbrev pub span_of : BoxKind → Span
span_of (kind.Cell colspan rowspan) = record { columns = max 1 colspan; rows = max 1 rowspan }
span_of _ = record { columns = 1; rows = 1 }

-- a row group that is drawn where it stands in the document: any but the first header group and the first footer group
abbrev pub stays_at : List BoxNode → ℕ → Bool
stays_at boxes k = is_row_group_kind (kind_at boxes k) && not (is_place (header_place boxes) k || is_place (footer_place boxes) k)

-- how many of those stand before the box at k
abbrev pub groups_before : List BoxNode → ℕ → ℕ
groups_before boxes zero = 0
groups_before boxes (suc k) = groups_before boxes k + (if stays_at boxes k then 1 else 0)

-- The rows that a cell of this row may span have the same number: that of the row group that it is in. Rows directly in the table are
-- together where no row group is drawn between them, be it an empty one; they have a number past those of the boxes.
abbrev pub group_number : List BoxNode → TableRow → ℕ
group_number boxes row =
    if is_row_group_kind (kind_at boxes row.group) then row.group else length boxes + groups_before boxes row.place

-- the rows as a grid takes them: the group of each and what its cells span
abbrev pub row_spec : List BoxNode → TableRow → RowSpec
row_spec boxes row = record {
  group = group_number boxes row;
  cells = map (λ k. span_of (kind_at boxes k)) (cells_of_row boxes row.place);
}

abbrev pub row_specs : List BoxNode → List TableRow → List RowSpec
row_specs boxes rows = map (row_spec boxes) rows

-- columns are in the box at this place
abbrev pub has_columns : List BoxNode → ℕ → Bool
has_columns boxes k = list_any (λ b. is_column_kind b.kind && (b.parent == k)) boxes

-- for how many columns a box stands: a column group with columns in it for none
abbrev pub column_count : (divided : Bool) → BoxKind → ℕ
column_count divided (kind.Column span) = span
column_count divided (kind.ColumnGroup span) = if divided then 0 else span
column_count divided _ = 0

-- the box of each column that has one, where the first of the boxes `rest` stands at k
abbrev pub columns_from : List BoxNode → ℕ → List BoxNode → List ℕ
columns_from boxes k [] = []
columns_from boxes k (box ∷ rest) =
    replicate (column_count (has_columns boxes k) box.kind) k ++ columns_from boxes (k + 1) rest

abbrev pub column_boxes_of : List BoxNode → List ℕ
column_boxes_of boxes = columns_from boxes 0 boxes
