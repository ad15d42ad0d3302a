-- Where the boxes of a table stand (CSS 2.2, 17.4, 17.5 and 17.6.1), counted from the corner of the border box of its wrapper. The
-- captions and the table box stand where the wrapper's flow puts them. Rows and row groups reach from the left edge of the first
-- column to the right edge of the last, or where there are none, over the content of the table box; and a cell over the columns
-- and rows that it spans. A row group without rows has no height, and stands where the next row would begin. Columns and column
-- groups hold nothing, and stand nowhere.
--
-- Relative positioning moves none of them. 9.4.3: "The effect of 'position:relative' on table-row-group, table-header-group,
-- table-footer-group, table-row, table-column-group, table-column, table-cell, and table-caption elements is undefined."
use Rattle.std.specs.Prelude.{ℕ, zero, suc, ◌≡◌, ◌+ℤ◌, ◌==◌, ℤ, List, length, map, slice_index, Option, Some, None, if◌then◌else◌}
use Rattle.lay_units.specs.declared.length.Unit.{Unit as Length}
use Rattle.lay_units.specs.Lengths.{no_length}
use Rattle.lay_flow.specs.declared.blocks.flow_places.BoxPlace.{BoxPlace}
use Rattle.lay_flow.specs.Blocks.FlowPlaces.{FlowPlacesValue, IsFlowOf, box_place_at}
use Rattle.lay_flow.specs.Blocks.Lengths.{length_at}
use Rattle.lay_placements.specs.declared.corner.Corner.{Corner}
use Rattle.lay_placements.specs.declared.standing.Standing.{Standing}
use Rattle.lay_placements.specs.Standings.{no_standing}
use Rattle.lay_table_grid.specs.TableBoxes.{is_row_group_kind, kind_at}
use Rattle.lay_table_grid.specs.TableGrid.{TableGridValue}
use Rattle.lay_table.specs.RowNeeds.{cell_of, table_sizes}
use Rattle.lay_table.specs.TableInputs.{TableInput, grid_of}
use Rattle.lay_table.specs.TableRows.{HasRows, TableRows, cell_height, cell_shift}
use Rattle.lay_table.specs.Tracks.{Tracks, extent_of, start_of}
use Rattle.lay_table.specs.Captions.{captions_of, table_number}
use Rattle.lay_table.specs.Groups.{rows_before, rows_within}
use Rattle.lay_table.specs.WrapperFlow.{boxes_in_wrapper, places_in_wrapper}

-- the number that a place has among the first n of these, of which no two are the same; of several it would be the last one's
abbrev pub number_in : List ℕ → ℕ → (n : ℕ) → Option ℕ
number_in places k zero = None
number_in places k (suc n) = if slice_index places n == k then Some n else number_in places k n

abbrev pub number_of : List ℕ → ℕ → Option ℕ
number_of places k = number_in places k (length places)

-- the spacing between columns; a table without columns has none
abbrev pub column_spacing : TableGridValue → Length
column_spacing grid = between grid.columns
  where
    between : ℕ → Length
    between zero = no_length
    between (suc columns) = grid.spacing.across

abbrev pub columns_of : TableInput → Tracks
columns_of i = record { lengths = i.table.columns; spacing = column_spacing (grid_of i) }

-- the corner of the content of the table box
abbrev pub content_corner_at : TableInput → BoxPlace → Corner
content_corner_at i place = record {
  x = record { 0 = place.corner.x.0 +ℤ (table_sizes i).edges.left.0 };
  y = record { 0 = place.corner.y.0 +ℤ (table_sizes i).edges.top.0 };
}

abbrev pub table_content_corner : TableInput → FlowPlacesValue → Corner
table_content_corner i flow = content_corner_at i (box_place_at flow.boxes (table_number (captions_of i.boxes)))

-- the workings
pub record TablePlaces : Type 0 where
  pub rows : TableRows
  pub columns : Tracks
  -- where the boxes of the wrapper's context stand, in their order there
  pub flow : FlowPlacesValue
  -- the corner of the content of the table box
  pub content : Corner

pub record HasTablePlaces (i : TableInput) (p : TablePlaces) : Type 0 where
  pub rows : HasRows i p.rows
  pub columns : p.columns ≡ columns_of i
  pub flow : IsFlowOf (boxes_in_wrapper i p.rows.tracks) p.flow
  pub content : p.content ≡ table_content_corner i p.flow

-- a corner that lies so far in it
abbrev pub corner_within : Corner → (across down : ℤ) → Corner
corner_within content across down = record { x = record { 0 = content.x.0 +ℤ across }; y = record { 0 = content.y.0 +ℤ down } }

abbrev pub table_flow_standing : BoxPlace → Standing
table_flow_standing place = record {
  corner = record { x = place.corner.x; y = place.corner.y };
  height = place.height;
  shift = no_length;
}

-- the row r
abbrev pub row_standing : TablePlaces → ℕ → Standing
row_standing p r = record {
  corner = corner_within p.content (start_of p.columns 0) (start_of p.rows.tracks r);
  height = record { 0 = length_at p.rows.tracks.lengths r };
  shift = no_length;
}

-- the cell c
abbrev pub cell_standing : TableInput → TablePlaces → ℕ → Standing
cell_standing i p c = record {
  corner = corner_within p.content (start_of p.columns (cell_of i c).column) (start_of p.rows.tracks (cell_of i c).row);
  height = cell_height i p.rows.tracks c;
  shift = cell_shift i p.rows c;
}

-- the height of a row group of so many rows from this one on
abbrev pub group_height : Tracks → (first count : ℕ) → Length
group_height rows first zero = no_length
group_height rows first (suc count) = record { 0 = extent_of rows first (suc count) }

-- the row group at k
abbrev pub group_standing : TableInput → TablePlaces → ℕ → Standing
group_standing i p k =
    let first : ℕ = rows_before i.boxes (grid_of i).rows k in
    record {
      corner = corner_within p.content (start_of p.columns 0) (start_of p.rows.tracks first);
      height = group_height p.rows.tracks first (rows_within (grid_of i).rows k);
      shift = no_length;
    }

-- the places of the boxes of rows and of cells
abbrev pub row_places : TableInput → List ℕ
row_places i = map (λ row. row.place) (grid_of i).rows

abbrev pub cell_places : TableInput → List ℕ
cell_places i = map (λ cell. cell.place) (grid_of i).cells

-- what stands so by its number, or so where it has none
abbrev pub standing_by : (ℕ → Standing) → Standing → Option ℕ → Standing
standing_by numbered other None = other
standing_by numbered other (Some n) = numbered n

-- the box at k, where it is a row group or nothing
abbrev pub group_or_none : TableInput → TablePlaces → ℕ → Standing
group_or_none i p k = if is_row_group_kind (kind_at i.boxes k) then group_standing i p k else no_standing

-- where it may be a cell, too, or a row
abbrev pub cell_or_group : TableInput → TablePlaces → ℕ → Standing
cell_or_group i p k = standing_by (cell_standing i p) (group_or_none i p k) (number_of (cell_places i) k)

abbrev pub part_standing : TableInput → TablePlaces → ℕ → Standing
part_standing i p k = standing_by (row_standing p) (cell_or_group i p k) (number_of (row_places i) k)

-- the box at k
abbrev pub standing_of : TableInput → TablePlaces → ℕ → Standing
standing_of i p k =
    standing_by (λ n. table_flow_standing (box_place_at p.flow.boxes n)) (part_standing i p k) (number_of (places_in_wrapper i) k)
