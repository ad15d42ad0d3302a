-- The pieces of a table, counted from the corner of its wrapper's border box: in the order of the boxes those of the wrapper, of the table
-- box, and of row groups and rows (CSS 2.2, 17.2 and 17.4). Captions and cells are formatting contexts of their own, and the
-- pieces of anonymous cells stand where their boxes do. Columns and column groups hold nothing, and have no piece.
use Rattle.std.specs.Prelude.{ℕ, zero, suc, List, [], ◌∷◌, length, slice_index, Option, None, Some, if◌then◌else◌}
use Rattle.lay_units.specs.declared.length.Unit.{Unit as Length}
use Rattle.lay_box_tree.specs.declared.box_tree.BoxKind.{BoxKind}
use Rattle.lay_box_tree.specs.declared.box_tree.BoxKind.TheVariants as kind
use Rattle.lay_box_tree.specs.declared.box_tree.BoxNode.{BoxNode}
use Rattle.lay_box_tree.specs.BoxColumns.{box_ids}
use Rattle.lay_box_tree.specs.ContextBoxes.{is_inner}
use Rattle.lay_frag.specs.declared.frag.Frag.{Frag}
use Rattle.lay_frag.specs.declared.frag.FragKind.TheVariants.{Box}
use Rattle.lay_placements.specs.declared.standing.Standing.{Standing}
use Rattle.lay_placements.specs.InnerPieces.{inner_pieces_at}
use Rattle.lay_placements.specs.PieceParts.{with_pieces}
use Rattle.lay_placements.specs.Splicing.{border_box, spliced}
use Rattle.lay_sizes.specs.BoxSizes.{border_width}
use Rattle.lay_sizes.specs.OwnBoxes.{own_box_at}
use Rattle.lay_sizes.specs.declared.own_boxes.OwnBox.{OwnBox}
use Rattle.lay_sizes.specs.SizeColumns.{sizes_at}
use Rattle.lay_table_grid.specs.TableBoxes.{kind_at}
use Rattle.lay_table_sizes.specs.TableSizesValue.{cell_at}
use Rattle.lay_table_sizes.specs.declared.cell_size.CellSize.{CellSize}
use Rattle.lay_table.specs.RowNeeds.{table_sizes}
use Rattle.lay_table.specs.TableInputs.{TableInput}
use Rattle.lay_table.specs.Tracks.{Tracks, extent_of}
use Rattle.lay_table.specs.declared.pieces.Extent.{Extent}
use Rattle.lay_table.specs.declared.pieces.Extent.TheVariants.{Own, Rows, Nothing}
use Rattle.lay_table.specs.TableStandings.{TablePlaces, standing_of}

-- how wide the piece of a box is: as the box is sized, or as the rows of the table are; if it has a piece here
abbrev pub extent_by_kind : BoxKind → Extent
extent_by_kind kind.Wrapper = Own
extent_by_kind kind.InlineWrapper = Own
extent_by_kind kind.Table = Own
extent_by_kind kind.RowGroup = Rows
extent_by_kind kind.HeaderGroup = Rows
extent_by_kind kind.FooterGroup = Rows
extent_by_kind kind.Row = Rows
extent_by_kind _ = Nothing

-- How wide rows and row groups are: from the left edge of the first column to the right edge of the last, and in a table without
-- columns as wide as the content of the table box, at whose left edge they begin.
abbrev pub rows_width : TableInput → Tracks → Length
rows_width i columns = over columns.lengths
  where
    over : List Length → Length
    over [] = (table_sizes i).widths.width
    over (width ∷ widths) = record { 0 = extent_of columns 0 (length columns.lengths) }

-- the border box of the box at k, which stands so and is so wide
abbrev pub piece_of : List BoxNode → Standing → ℕ → Length → Frag
piece_of boxes standing k width = record {
  kind = Box;
  node = record { 0 = slice_index (box_ids boxes) k };
  part = 0;
  rect = border_box width standing;
}

abbrev pub pieces_by : TableInput → TablePlaces → ℕ → Extent → List Frag
pieces_by i p k Own = piece_of i.boxes (standing_of i p k) k (record { 0 = border_width (sizes_at i.sizes k) }) ∷ []
pieces_by i p k Rows = piece_of i.boxes (standing_of i p k) k (rows_width i p.columns) ∷ []
pieces_by i p k Nothing = []

-- How wide the border box at k of an inner formatting context is: a cell's as its columns are, also where these are narrower than
-- its borders and paddings (17.5.2.1).
abbrev pub width_of_cell : Option CellSize → OwnBox → Length
width_of_cell None o = o.width
width_of_cell (Some cell) o = cell.width

abbrev pub inner_width : TableInput → ℕ → Length
inner_width i k = width_of_cell (cell_at i.table k) (own_box_at i.inner k)

-- the pieces of the box at k
abbrev pub table_pieces_of_box : TableInput → TablePlaces → ℕ → List Frag
table_pieces_of_box i p k =
    if is_inner i.boxes k then spliced (inner_width i k) (standing_of i p k) (inner_pieces_at i.pieces k)
    else pieces_by i p k (extent_by_kind (kind_at i.boxes k))

-- the pieces of the first n boxes, each with its part
abbrev pub pieces_to : TableInput → TablePlaces → (n : ℕ) → List Frag
pieces_to i p zero = []
pieces_to i p (suc k) = with_pieces (pieces_to i p k) (table_pieces_of_box i p k)
