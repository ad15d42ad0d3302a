-- What is known before the place k, where the stretch from the place `first` is open.
use Rattle.std.specs.Prelude.{◌≡◌, ℕ, ◌+◌, ◌-◌, ◌<◌, ◌≤◌, ◌⊎◌, List, [], ◌∷◌, ◌++◌, slice_get, Some, nat_lt, if◌then◌else◌}
use Rattle.lay_margins.specs.declared.edge.Edge.{Edge}
use Rattle.lay_margins.specs.declared.edge.Run.{Run}
use Rattle.lay_margins.specs.Runs.{IsSolidAt, IsClearAt, IsRun}

-- the runs, and the stretch from `first` to before `end`, unless that is empty
abbrev pub runs_closed : List Run → ℕ → ℕ → List Run
runs_closed runs first end = if nat_lt first end then runs ++ record { first = first; len = end - first } ∷ [] else runs

-- the edges before the place k are parted from it
abbrev pub IsParted : List Edge → ℕ → Type 0
IsParted edges k = (k ≡ 0) ⊎ (((j : ℕ) × (k ≡ j + 1) × IsSolidAt edges j) ⊎ IsClearAt edges k)

pub record RunsTo (edges : List Edge) (runs : List Run) (first k : ℕ) : Type 0 where
  pub begun : first ≤ k
  pub begins : IsParted edges first
  pub no_solid : (j : ℕ) → first ≤ j → j < k → ¬ IsSolidAt edges j
  pub no_clear : (j : ℕ) → first < j → j < k → ¬ IsClearAt edges j
  pub each : (j : ℕ) (run : Run) → slice_get runs j ≡ Some run → IsRun edges run × (run.first < first)
  pub all : (run : Run) → IsRun edges run → run.first < first → (j : ℕ) × (slice_get runs j ≡ Some run)
  pub order : (i j : ℕ) (earlier later : Run) → i < j → slice_get runs i ≡ Some earlier → slice_get runs j ≡ Some later
      → earlier.first < later.first
