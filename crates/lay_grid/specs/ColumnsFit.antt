-- Which columns the widths are asked of: lengths that are positions, cells over one column at least
-- that lie inside the columns, fewer than 2^32 columns, and widths that are positions.
use Rattle.std.specs.Prelude.{ℕ, ◌+◌, ◌^◌, ◌<◌, ◌≤◌, List, length, All}
use Rattle.lay_units.specs.declared.length.Unit.{Unit}
use Rattle.lay_units.specs.Units.{IsPosition}
use Rattle.lay_grid.specs.declared.columns.FirstCell.{FirstCell}
use Rattle.lay_grid.specs.declared.columns.ColumnsIn.{ColumnsIn}
use Rattle.lay_grid.specs.Lengths.{ArePositions, MayBePosition}
use Rattle.lay_grid.specs.Columns.{AreColumns}

pub record CellFits (columns : ℕ) (cell : FirstCell) : Type 0 where
  pub some : 1 ≤ cell.span
  pub inside : cell.column + cell.span ≤ columns
  pub width : MayBePosition cell.width

pub record ColumnsFit (c : ColumnsIn) : Type 0 where
  pub few : length c.given < 2 ^ 32
  pub given : All MayBePosition c.given
  pub first : All (CellFits (length c.given)) c.first
  pub width : IsPosition c.width.0
  pub spacing : IsPosition c.spacing.0
  pub widths : (widths : List Unit) → AreColumns c widths → ArePositions widths
