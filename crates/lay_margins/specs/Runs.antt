-- Runs of adjoining margins (CSS 2.2, 8.3.1). The vertical margins of a block formatting context stand in one
-- list in document order, with what may part them. A solid amount parts what stands before it from what
-- stands after it, and is in no run. It may be a border, a padding, a height, a line or a solid box, or a
-- barrier of 0. The clearance of a box parts what stands before it from the margins of that box, and is
-- the first edge of the run that these begin. A mark parts nothing.
--
-- A run is a longest stretch of edges that nothing parts. It is the whole stretch between two partings:
-- marks before its first and after its last margin are in it, and marks alone make a run without margins,
-- which collapse to 0. A run has an edge at least, so there is none between two solid amounts that stand
-- together. The edges Margin, Mark, Solid, Solid, Mark, Clear, Mark, Margin, at the places 0 to 7, have
-- three runs: the first two edges, the one at 4, and those from 5 to 7.
use Rattle.std.specs.Prelude.{◌≡◌, ℕ, ◌+◌, ◌<◌, ◌≤◌, List, length, slice_get, Some}
use Rattle.lay_units.specs.declared.length.Unit.{Unit as Length}
use Rattle.lay_margins.specs.declared.edge.Edge.{Edge}
use Rattle.lay_margins.specs.declared.edge.Edge.TheVariants.{Solid as solid, Clear as clear}
use Rattle.lay_margins.specs.declared.edge.Run.{Run}

-- a solid amount stands at the place k
abbrev pub IsSolidAt : List Edge → ℕ → Type 0
IsSolidAt edges k = (amount : Length) × (slice_get edges k ≡ Some (solid amount))

-- clearance stands at the place k
abbrev pub IsClearAt : List Edge → ℕ → Type 0
IsClearAt edges k = (box : ℕ) × (slice_get edges k ≡ Some (clear box))

-- nothing parts the edges from the place `first` to before the place `end`, of which there is one at least
pub record Adjoin (edges : List Edge) (first end : ℕ) : Type 0 where
  pub some : first < end
  pub within : end ≤ length edges
  pub no_solid : (k : ℕ) → first ≤ k → k < end → ¬ IsSolidAt edges k
  pub no_clear : (k : ℕ) → first < k → k < end → ¬ IsClearAt edges k

-- nothing parts the edges of the run, and it is part of no longer stretch that nothing parts
pub record IsRun (edges : List Edge) (run : Run) : Type 0 where
  pub adjoin : Adjoin edges run.first (run.first + run.len)
  pub longest : (first end : ℕ) → Adjoin edges first end → first ≤ run.first → run.first + run.len ≤ end
      → (first ≡ run.first) × (end ≡ run.first + run.len)

-- these are the runs of the edges, in their order
pub record AreRuns (edges : List Edge) (runs : List Run) : Type 0 where
  pub each : (k : ℕ) (run : Run) → slice_get runs k ≡ Some run → IsRun edges run
  pub all : (run : Run) → IsRun edges run → (k : ℕ) × (slice_get runs k ≡ Some run)
  pub order : (j k : ℕ) (earlier later : Run) → j < k → slice_get runs j ≡ Some earlier → slice_get runs k ≡ Some later
      → earlier.first < later.first
