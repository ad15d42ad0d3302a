-- The rows of a table: their used heights and their baselines (CSS 2.2, 17.5.3), beside the used sizes of the cells. The baseline of a
-- row is the one that its cells on the baseline share. "If a row has no cell box aligned to its baseline, the baseline of that row is
-- the bottom content edge of the lowest cell in the row." A row in which no cell begins has it at its bottom.
use Rattle.std.specs.Prelude.{ℕ, zero, suc, ◌≡◌, ◌<◌, ◌-ℤ◌, List, [], ◌∷◌, ◌++◌, length, map, Option, Some}
use Rattle.std.specs.Option.{option_or, unwrap_or}
use Rattle.lay_units.specs.Units.{clamp_size_of, half_of}
use Rattle.lay_units.specs.declared.length.Unit.{Unit as Length}
use Rattle.lay_units.specs.Lengths.{no_length}
use Rattle.lay_flow.specs.Blocks.Lengths.{length_at}
use Rattle.lay_grid.specs.declared.heights.RowCell.{RowCell}
use Rattle.lay_grid.specs.declared.heights.RowsIn.{RowsIn}
use Rattle.lay_grid.specs.Heights.{AreHeights}
use Rattle.lay_grid.specs.RowBaselines.{AreRowBaselines, baseline_at}
use Rattle.lay_sizes.specs.declared.sizing.BoxSizes.{BoxSizes}
use Rattle.lay_sizes.specs.BoxSizes.{content_block}
use Rattle.lay_sizes.specs.SizeColumns.{no_edges, sizes_at}
use Rattle.lay_table_sizes.specs.declared.cell_size.CellSize.{CellSize}
use Rattle.lay_table_sizes.specs.CellSizes.{IsCellSized}
use Rattle.lay_table_sizes.specs.TableSizesValue.{cell_at}
use Rattle.lay_table.specs.declared.cell_align.CellAlign.{CellAlign}
use Rattle.lay_table.specs.declared.cell_align.CellAlign.TheVariants.{Baseline, Top, Middle, Bottom}
use Rattle.lay_table.specs.RowNeeds.{align_of, cell_baseline, cell_of, least_height, natural_box}
use Rattle.lay_table.specs.RowNeeds.{needs_of, row_cell, rows_in, style_of, table_sizes}
use Rattle.lay_table.specs.TableInputs.{TableInput, grid_of}
use Rattle.lay_table.specs.Tracks.{Tracks, end_of, extent_of}

pub record TableRows : Type 0 where
  -- the used sizes of the cells
  pub cells : List BoxSizes
  -- the rows, with their used heights
  pub tracks : Tracks
  -- the baselines that the cells of rows share
  pub baselines : List (Option Length)
  -- the lowest bottom content edges of the cells that begin in rows, from the tops of these
  pub bottoms : List (Option Length)

abbrev pub no_cell_size : CellSize
no_cell_size = record { width = no_length; borders = no_edges }

-- what is known of the size of the cell c
abbrev pub cell_size_of : TableInput → ℕ → CellSize
cell_size_of i c = unwrap_or (cell_at i.table (cell_of i c).place) no_cell_size

-- Each cell is sized beside the content box of the table box, by the width that its columns give it.
pub record HaveCellSizes (i : TableInput) (cells : List BoxSizes) : Type 0 where
  pub count : length cells ≡ length (grid_of i).cells
  pub each : (c : ℕ) → c < length (grid_of i).cells
      → IsCellSized (content_block (table_sizes i)) (cell_size_of i c) (style_of i (cell_of i c).place) (sizes_at cells c)

-- a height as a used size
abbrev pub height_as_size : Length → Length
height_as_size height = record { 0 = clamp_size_of height.0 }

-- rows as low as they can be
pub record AreTracks (rows : RowsIn) (t : Tracks) : Type 0 where
  pub heights : List Length
  pub are_heights : AreHeights rows heights
  pub used : t ≡ record { lengths = map height_as_size heights; spacing = rows.spacing }

-- the height of the border box of the cell c: that of its rows, with the spacings between them
abbrev pub cell_height : TableInput → Tracks → ℕ → Length
cell_height i rows c = record { 0 = extent_of rows (cell_of i c).row (cell_of i c).rows }

-- its bottom content edge, from the top of its first row
abbrev pub content_bottom : TableInput → List BoxSizes → Tracks → ℕ → Length
content_bottom i cells rows c = record { 0 = (cell_height i rows c).0 -ℤ (sizes_at cells c).edges.bottom.0 }

-- the cell c, as if it were at the baseline with that edge
abbrev pub bottom_of : TableInput → List BoxSizes → Tracks → ℕ → RowCell
bottom_of i cells rows c = row_cell (cell_of i c) (cell_height i rows c) (Some (content_bottom i cells rows c))

-- the first n cells so
abbrev pub bottoms_to : TableInput → List BoxSizes → Tracks → (n : ℕ) → List RowCell
bottoms_to i cells rows zero = []
bottoms_to i cells rows (suc c) =
    bottoms_to i cells rows c ++ bottom_of i cells rows c ∷ []

abbrev pub bottoms_of : TableInput → List BoxSizes → Tracks → List RowCell
bottoms_of i cells rows = bottoms_to i cells rows (length (grid_of i).cells)

pub record HasRows (i : TableInput) (rows : TableRows) : Type 0 where
  pub cells : HaveCellSizes i rows.cells
  pub tracks : AreTracks (rows_in i rows.cells) rows.tracks
  pub baselines : AreRowBaselines (needs_of i rows.cells) (length (grid_of i).rows) rows.baselines
  pub bottoms : AreRowBaselines (bottoms_of i rows.cells rows.tracks) (length (grid_of i).rows) rows.bottoms

-- the baseline of the row r, from its top
abbrev pub row_baseline : TableRows → ℕ → Length
row_baseline rows r =
    unwrap_or (option_or (baseline_at rows.baselines r) (baseline_at rows.bottoms r)) (record { 0 = length_at rows.tracks.lengths r })

-- How far the content of a cell of this height is moved down in it, from where it stands by its content alone: from its own baseline to
-- that of its row, not at all, to the middle, or to the bottom.
abbrev pub shift_by : CellAlign → (row own natural height : Length) → Length
shift_by Baseline row own natural height = record { 0 = row.0 -ℤ own.0 }
shift_by Top row own natural height = no_length
shift_by Middle row own natural height = record { 0 = half_of (height.0 -ℤ natural.0) }
shift_by Bottom row own natural height = record { 0 = height.0 -ℤ natural.0 }

-- the baseline of the cell c itself
abbrev pub cell_own_baseline : TableInput → TableRows → ℕ → Length
cell_own_baseline i rows c = cell_baseline (natural_box i c) (sizes_at rows.cells c)

abbrev pub cell_shift : TableInput → TableRows → ℕ → Length
cell_shift i rows c =
    shift_by (align_of i c) (row_baseline rows (cell_of i c).row) (cell_own_baseline i rows c)
    (natural_box i c).height (cell_height i rows.tracks c)

-- The height of the content of the table box: its rows and the spacings, or without rows what the table asks for.
abbrev pub table_content : BoxSizes → Tracks → Length
table_content table rows = over rows.lengths
  where
    over : List Length → Length
    over [] = least_height table
    over (height ∷ heights) = height_as_size (record { 0 = end_of rows })
