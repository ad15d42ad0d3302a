-- Where runs begin: of entries that stand together and are the same, the first.
use Rattle.std.specs.Prelude.{ℕ, ◌≡◌, ◌<◌, List, length, slice_index}
use Rattle.lay_table_grid.specs.MeetingBorders.{first_of_run}

-- those of the first n entries
pub record AreRunStartsTo (xs : List ℕ) (n : ℕ) (starts : List ℕ) : Type 0 where
  pub as_many : length starts ≡ n
  pub each : (k : ℕ) → k < n → slice_index starts k ≡ first_of_run xs k
