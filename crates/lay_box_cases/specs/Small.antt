-- How great the numbers are that the rows of tables say.
use Rattle.std.specs.Prelude.{ℕ, ◌+◌, ◌≤◌, ℤ, pos, neg_ℤ, ◌≤ℤ◌, length, All, Option, Some, None, ⊤}
use Rattle.lay_units.specs.declared.length.Unit.{Unit}
use Rattle.lay_units.specs.declared.records.Rect.{Rect}
use Rattle.lay_grid.specs.declared.cells.Span.{Span}
use Rattle.lay_grid.specs.declared.cells.RowSpec.{RowSpec}
use Rattle.lay_grid.specs.declared.columns.FirstCell.{FirstCell}
use Rattle.lay_grid.specs.declared.heights.RowCell.{RowCell}

-- a length from 0 on
abbrev pub IsSmall : ℤ → Type 0
IsSmall v = (pos 0 ≤ℤ v) × (v ≤ℤ pos 65535)

abbrev pub MayBeSmall : Option Unit → Type 0
MayBeSmall None = ⊤
MayBeSmall (Some length) = IsSmall length.0

-- a cell of a row
pub record IsSmallSpan (span : Span) : Type 0 where
  pub rows : 1 ≤ span.rows
  pub columns : span.columns ≤ 255

pub record IsSmallRow (row : RowSpec) : Type 0 where
  pub few : length row.cells ≤ 255
  pub spans : All IsSmallSpan row.cells

-- a cell of the first row of so many columns
pub record IsSmallCell (columns : ℕ) (cell : FirstCell) : Type 0 where
  pub some : 1 ≤ cell.span
  pub inside : cell.column + cell.span ≤ columns
  pub width : MayBeSmall cell.width

-- a cell of so many rows
pub record IsSmallNeed (rows : ℕ) (cell : RowCell) : Type 0 where
  pub some : 1 ≤ cell.span
  pub inside : cell.row + cell.span ≤ rows
  pub height : IsSmall cell.height.0
  pub baseline : MayBeSmall cell.baseline

-- px of 16 bits, in units
abbrev pub IsShortLength : ℤ → Type 0
IsShortLength v = (neg_ℤ (pos 2097152) ≤ℤ v) × (v ≤ℤ pos 2097152)

pub record IsShortRect (r : Rect) : Type 0 where
  pub x : IsShortLength r.x.0
  pub y : IsShortLength r.y.0
  pub w : IsShortLength r.w.0
  pub h : IsShortLength r.h.0
