-- What cells need of the rows that they span, by their last rows.
use Rattle.std.specs.Prelude.{ℕ, ◌≡◌, ◌≢◌, ◌+◌, ◌-◌, ◌<◌, ℤ, ◌+ℤ◌, ◌-ℤ◌, ◌≤ℤ◌}
use Rattle.std.specs.Prelude.{List, [], ◌∷◌, ◌++◌, length}
use Rattle.std.specs.Prelude.{Option, Some, slice_get, slice_index_or}
use Rattle.std.specs.List.{Contains}
use Rattle.lay_units.specs.declared.length.Unit.{Unit}
use Rattle.lay_units.specs.Units.{IsWithinPower}
use Rattle.lay_grid.specs.declared.heights.RowCell.{RowCell}
use Rattle.lay_grid.specs.declared.needs.Need.{Need}
use Rattle.lay_grid.specs.Heights.{IsEnough}

-- the least room that is enough for a cell
pub record IsNeed (cells : List RowCell) (cell : RowCell) (need : Need) : Type 0 where
  pub row : need.row ≡ cell.row
  pub span : need.span ≡ cell.span
  pub enough : IsEnough cells cell cell.baseline need.room
  pub least : (room : ℤ) → IsEnough cells cell cell.baseline room → need.room ≤ℤ room
  pub within : IsWithinPower 64 need.room

-- how much room that is where the row of the cell has this baseline, or none
abbrev pub room_of_baselines : ℤ → Option Unit → Option Unit → ℤ
room_of_baselines height (Some own) (Some lowest) = height +ℤ (lowest.0 -ℤ own.0)
room_of_baselines height _ _ = height

abbrev pub room_of : RowCell → Option Unit → ℤ
room_of cell row_baseline = room_of_baselines cell.height.0 cell.baseline row_baseline

-- it is that of some cell
abbrev pub IsOfSome : List RowCell → Need → Type 0
IsOfSome cells need =
    (k : ℕ) × (cell : RowCell) × (slice_get cells k ≡ Some cell) × IsNeed cells cell need

abbrev pub last_row : Need → ℕ
last_row need = need.row + need.span - 1

-- the needs of the first n cells that end in the row
pub record NeedsTo (cells : List RowCell) (n row : ℕ) (needs : List Need) : Type 0 where
  pub each : (k : ℕ) → k < n → (cell : RowCell) → slice_get cells k ≡ Some cell
      → cell.row + cell.span ≡ row + 1
      → (need : Need) × Contains needs need × IsNeed cells cell need
  pub only : (need : Need) → Contains needs need
      → (need.row + need.span ≡ row + 1) × IsOfSome cells need

-- one more need stands at the end of those of its last row
pub record Adds (need : Need) (before after : List (List Need)) : Type 0 where
  pub here : slice_index_or after (last_row need) []
      ≡ slice_index_or before (last_row need) [] ++ need ∷ []
  pub others : (k : ℕ) → k ≢ last_row need → slice_index_or after k [] ≡ slice_index_or before k []
  pub as_many : length after ≡ length before

-- those of each of so many rows
pub record AllNeedsTo (cells : List RowCell) (n rows : ℕ) (needs : List (List Need)) : Type 0 where
  pub as_many : length needs ≡ rows
  pub each : (row : ℕ) → row < rows → NeedsTo cells n row (slice_index_or needs row [])
