-- What is kept of the starts of tracks: those of the first n, and where the next one begins or would begin.
use Rattle.std.specs.Prelude.{ℕ, ◌≡◌, ◌+◌, ◌≤◌, List, length}
use Rattle.lay_units.specs.declared.length.Unit.{Unit as Length}
use Rattle.lay_units.specs.Units.{IsNear}
use Rattle.lay_flow.specs.Blocks.Lengths.{length_at}
use Rattle.lay_table.specs.Tracks.{Tracks, start_of}

pub record AreStarts (t : Tracks) (n : ℕ) (starts : List Length) : Type 0 where
  pub count : length starts ≡ n + 1
  pub each : (k : ℕ) → k ≤ n → length_at starts k ≡ start_of t k
  pub near : (k : ℕ) → k ≤ n → IsNear (length_at starts k)
