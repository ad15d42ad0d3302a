-- Which rows the heights are asked of: lengths that are positions, cells over one row at least that
-- lie inside the rows, fewer than 2^32 rows, and heights that are positions.
use Rattle.std.specs.Prelude.{ℕ, ◌+◌, ◌^◌, ◌<◌, ◌≤◌, List, length, All}
use Rattle.lay_units.specs.declared.length.Unit.{Unit}
use Rattle.lay_units.specs.Units.{IsPosition}
use Rattle.lay_grid.specs.Lengths.{ArePositions, MayBePosition}
use Rattle.lay_grid.specs.declared.heights.RowCell.{RowCell}
use Rattle.lay_grid.specs.declared.heights.RowsIn.{RowsIn}
use Rattle.lay_grid.specs.Heights.{AreHeights}

pub record RowCellFits (rows : ℕ) (cell : RowCell) : Type 0 where
  pub some : 1 ≤ cell.span
  pub inside : cell.row + cell.span ≤ rows
  pub height : IsPosition cell.height.0
  pub baseline : MayBePosition cell.baseline

pub record RowsFit (r : RowsIn) : Type 0 where
  pub few : length r.own < 2 ^ 32
  pub own : ArePositions r.own
  pub cells : All (RowCellFits (length r.own)) r.cells
  pub spacing : IsPosition r.spacing.0
  pub total : IsPosition r.total.0
  pub heights : (heights : List Unit) → AreHeights r heights → ArePositions heights
