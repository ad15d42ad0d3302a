-- The baselines of rows, while the cells are gone through.
use Rattle.std.specs.Prelude.{ℕ, ◌≡◌, ◌≢◌, ◌<◌, ℤ, ◌≤ℤ◌, Option, Some, None}
use Rattle.std.specs.Prelude.{List, length, slice_get, slice_index_or, All}
use Rattle.std.specs.Int.{int_max}
use Rattle.lay_units.specs.declared.length.Unit.{Unit}
use Rattle.lay_grid.specs.declared.heights.RowCell.{RowCell}
use Rattle.lay_grid.specs.Heights.{HasBaseline}
use Rattle.lay_grid.specs.Lengths.{MayBePosition}

-- the lower of two baselines, where there is one
abbrev pub lower_baseline : Option Unit → Option Unit → Option Unit
lower_baseline None b = b
lower_baseline (Some a) None = Some a
lower_baseline (Some a) (Some b) = Some (record { 0 = int_max a.0 b.0 })

-- the lowest of the baselines that the first n cells have in the row, or none
abbrev pub BaselineTo : List RowCell → ℕ → ℕ → Option Unit → Type 0
BaselineTo cells row n None =
    (k : ℕ) → k < n → (cell : RowCell) → slice_get cells k ≡ Some cell → cell.row ≡ row
    → cell.baseline ≡ None
BaselineTo cells row n (Some b) =
    HasBaseline cells row b.0
    × ((k : ℕ) → k < n → (cell : RowCell) → slice_get cells k ≡ Some cell → cell.row ≡ row
    → (a : ℤ) → cell.baseline ≡ Some (record { 0 = a }) → a ≤ℤ b.0)

-- the row's baseline is lowered to that of one more cell
pub record Lowers (row : ℕ) (baseline : Option Unit) (before after : List (Option Unit))
    : Type 0 where
  pub here : slice_index_or after row None ≡ lower_baseline (slice_index_or before row None) baseline
  pub others : (k : ℕ) → k ≢ row → slice_index_or after k None ≡ slice_index_or before k None
  pub as_many : length after ≡ length before

-- that of each of so many rows
pub record BaselinesTo (cells : List RowCell) (n rows : ℕ) (baselines : List (Option Unit))
    : Type 0 where
  pub as_many : length baselines ≡ rows
  pub each : (row : ℕ) → row < rows → BaselineTo cells row n (slice_index_or baselines row None)
  pub fits : All MayBePosition baselines
