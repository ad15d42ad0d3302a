-- Sources and sinks over memory, as contracts see them.
use Rattle.std.specs.Prelude.{ℕ, ◌+◌, List, Bool, ◌==◌}
use Rattle.std.specs.List.{list_any}

-- a sink of fixed room: the bytes taken, the room that is left, and the count of faults
pub record Room : Type 0 where
  pub bytes : List ℕ
  pub room : ℕ
  pub faults : ℕ

-- a source that can fail: the bytes left, the most that a read gives, the numbers of the reads that
-- fail, how many reads there were, and the count of faults
pub record Feed : Type 0 where
  pub bytes : List ℕ
  pub step : ℕ
  pub fail : List ℕ
  pub calls : ℕ
  pub faults : ℕ

-- a sink that can fail: the bytes taken, the room that is left, the most that a write takes, the
-- numbers of the writes that fail, how many writes there were, and the count of faults
pub record Drain : Type 0 where
  pub bytes : List ℕ
  pub room : ℕ
  pub step : ℕ
  pub fail : List ℕ
  pub calls : ℕ
  pub faults : ℕ

-- whether the call after so many is listed
abbrev pub is_listed : List ℕ → ℕ → Bool
is_listed fail calls = list_any (λ number. number == calls + 1) fail
