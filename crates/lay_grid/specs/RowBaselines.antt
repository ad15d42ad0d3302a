-- The baselines of the rows of a table (CSS 2.2, 17.5.3): that of a row is the lowest of the baselines of the cells that begin in it. A row
-- in which no cell has one has none.
use Rattle.std.specs.Prelude.{ℕ, ◌≡◌, ◌<◌, ℤ, List, length, slice_index_or, Option, Some, None}
use Rattle.lay_units.specs.declared.length.Unit.{Unit}
use Rattle.lay_grid.specs.declared.heights.RowCell.{RowCell}
use Rattle.lay_grid.specs.Heights.{HasBaseline, IsRowBaseline}

-- the baseline of the row, or none
abbrev pub IsBaselineOf : List RowCell → ℕ → Option Unit → Type 0
IsBaselineOf cells row None = (b : ℤ) → HasBaseline cells row b → ⊥
IsBaselineOf cells row (Some b) = IsRowBaseline cells row b.0

abbrev pub baseline_at : List (Option Unit) → ℕ → Option Unit
baseline_at baselines row = slice_index_or baselines row None

-- those of so many rows
pub record AreRowBaselines (cells : List RowCell) (rows : ℕ) (baselines : List (Option Unit)) : Type 0 where
  pub as_many : length baselines ≡ rows
  pub each : (row : ℕ) → row < rows → IsBaselineOf cells row (baseline_at baselines row)
