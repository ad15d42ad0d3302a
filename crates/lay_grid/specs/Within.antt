-- Bounds of the answers: a grid has no more columns than its cells span together, rows of sizes
-- have heights that are sizes, and columns of sizes widths that are. So a caller meets what the
-- calls ask of their answers.
use Rattle.std.specs.Prelude.{ℕ, ◌≡◌, ◌+◌, ◌*◌, ◌≤◌, ℤ, pos, ◌≤ℤ◌, Option, Some}
use Rattle.std.specs.Prelude.{List, [], ◌∷◌, length, slice_get, All}
use Rattle.lay_units.specs.declared.length.Unit.{Unit}
use Rattle.lay_grid.specs.declared.cells.Area.{Area}
use Rattle.lay_grid.specs.declared.cells.Grid.{Grid}
use Rattle.lay_grid.specs.declared.cells.RowSpec.{RowSpec}
use Rattle.lay_grid.specs.declared.columns.FirstCell.{FirstCell}
use Rattle.lay_grid.specs.declared.columns.ColumnsIn.{ColumnsIn}
use Rattle.lay_grid.specs.declared.heights.RowCell.{RowCell}
use Rattle.lay_grid.specs.declared.heights.RowsIn.{RowsIn}
use Rattle.lay_grid.specs.Areas.{areas_from}
use Rattle.lay_grid.specs.Slots.{IsGrid}
use Rattle.lay_grid.specs.Shares.{own_width}
use Rattle.lay_grid.specs.Columns.{AreColumns}
use Rattle.lay_grid.specs.Heights.{AreHeights, IsEnough}

-- how many columns cells span together
abbrev pub columns_spanned : List Area → ℕ
columns_spanned [] = 0
columns_spanned (area ∷ areas) = area.columns + columns_spanned areas

abbrev pub ColumnsAreWithin : Type 0
ColumnsAreWithin = (rows : List RowSpec) (grid : Grid)
    → IsGrid rows grid → grid.columns ≤ columns_spanned (areas_from 0 rows)

-- from 0 to so much
abbrev pub IsUpTo : ℕ → ℤ → Type 0
IsUpTo most v = (pos 0 ≤ℤ v) × (v ≤ℤ pos most)

abbrev pub AreUpTo : ℕ → List Unit → Type 0
AreUpTo most lengths = All (λ (length : Unit). IsUpTo most length.0) lengths

-- rows of which none needs more than so much
pub record NeedUpTo (r : RowsIn) (most : ℕ) : Type 0 where
  pub own : AreUpTo most r.own
  pub cells : (k : ℕ) (cell : RowCell) → slice_get r.cells k ≡ Some cell
      → IsEnough r.cells cell cell.baseline (pos most)
  pub spacing : pos 0 ≤ℤ r.spacing.0
  pub total : r.total.0 ≤ℤ pos most

-- then none is higher
abbrev pub HeightsAreWithin : Type 0
HeightsAreWithin = (r : RowsIn) (most : ℕ) (heights : List Unit)
    → NeedUpTo r most → AreHeights r heights → AreUpTo most heights

-- a cell over a column at least, that isn't wider
pub record CellUpTo (most : ℕ) (cell : FirstCell) : Type 0 where
  pub some : 1 ≤ cell.span
  pub width : own_width cell.width ≤ℤ pos most

-- columns and a table of which none is wider than so much
pub record TakeUpTo (c : ColumnsIn) (most : ℕ) : Type 0 where
  pub given : All (λ (own : Option Unit). IsUpTo most (own_width own)) c.given
  pub first : All (CellUpTo most) c.first
  pub width : c.width.0 ≤ℤ pos most
  pub spacing : pos 0 ≤ℤ c.spacing.0

-- then no column is wider than all of them together
abbrev pub WidthsAreWithin : Type 0
WidthsAreWithin = (c : ColumnsIn) (most : ℕ) (widths : List Unit)
    → TakeUpTo c most → AreColumns c widths → AreUpTo (most * (length c.given + 1)) widths
