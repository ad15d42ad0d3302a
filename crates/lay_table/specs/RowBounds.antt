-- How long the columns of a table's rows and cells are, and that the used sizes of its cells are within their bounds.
use Rattle.std.specs.Prelude.{◌≡◌, length}
use Rattle.lay_sizes.specs.SizeColumns.{HaveSizeBounds}
use Rattle.lay_table.specs.TableInputs.{TableInput, grid_of}
use Rattle.lay_table.specs.TableRows.{TableRows}

pub record RowsFitTable (i : TableInput) (rows : TableRows) : Type 0 where
  pub cells : length rows.cells ≡ length (grid_of i).cells
  pub tracks : length rows.tracks.lengths ≡ length (grid_of i).rows
  pub baselines : length rows.baselines ≡ length (grid_of i).rows
  pub bottoms : length rows.bottoms ≡ length (grid_of i).rows
  pub sizes : HaveSizeBounds rows.cells
