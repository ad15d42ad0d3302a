-- What is known of a table while its borders are found: its cells lie inside its grid, which cell covers each slot, and
-- where its rows' and columns' groups begin.
use Rattle.std.specs.Prelude.{ℕ, ◌≡◌, ◌^◌, ◌<◌, Option, List, length}
use Rattle.lay_table_grid.specs.declared.placed.PlacedCell.{PlacedCell}
use Rattle.lay_table_grid.specs.TableParts.{TableParts}
use Rattle.lay_table_grid.specs.PartBounds.{TablePartsFit}
use Rattle.lay_table_grid.specs.MeetingBorders.{column_groups, row_groups}
use Rattle.lay_table_grid.specs.Pass.Runs.{AreRunStartsTo}
use Rattle.lay_table_grid.specs.Pass.Slots.{AreSlots}

-- what is found of them first
pub record LinesOf : Type 0 where
  pub slots : List (List (Option ℕ))
  pub groups : List ℕ
  pub group_starts : List ℕ
  pub column_groups : List ℕ
  pub column_group_starts : List ℕ

pub record AreLinesOf (p : TableParts) (l : LinesOf) : Type 0 where
  pub slots : AreSlots p.cells (length p.rows) l.slots
  pub groups : l.groups ≡ row_groups p
  pub group_starts : AreRunStartsTo l.groups (length l.groups) l.group_starts
  pub column_groups : l.column_groups ≡ column_groups p
  pub column_group_starts : AreRunStartsTo l.column_groups (length l.column_groups) l.column_group_starts

pub record AreKnownLines (p : TableParts) (l : LinesOf) : Type 0 where
  pub fit : TablePartsFit p
  pub lines : AreLinesOf p l

-- a cell's first row and column are numbers that a border knows
pub record IsBorderCounted (placed : PlacedCell) : Type 0 where
  pub row : placed.cell.area.row < 2 ^ 32
  pub column : placed.cell.left < 2 ^ 32
