-- How many claims of cells were granted. A grant is counted where it is made, and the count of a cell is let go with the cell: so it is at
-- least the sum over the cells that are there, and that is at least their number where all are clean.
use Rattle.std.specs.Prelude.{ℕ, ◌≡◌, ◌+◌, ◌≤◌, List, [], length}
use Rattle.std.specs.List.{sum_by}
use Rattle.lay_cells.specs.Marks.{Marks}
use Rattle.lay_cells.specs.Reads.{AllClean}
use Rattle.lay_cells.specs.Reshapes.{Reshapes}
use Rattle.lay_cells.specs.Rows.{Row, Solved, State}
use Rattle.lay_cells.specs.Shapes.{Entry, IsShape}
use Rattle.lay_cells.specs.Sound.{IsSound}
use Rattle.lay_cells.specs.Steps.{ClaimsIn, FinishesIn, GivesBackIn}
use Rattle.lay_cells.specs.declared.answers.Claimed.{Claimed}
use Rattle.lay_cells.specs.declared.answers.Claimed.TheVariants.{Granted, Reused, Taken}
use Rattle.lay_cells.specs.declared.answers.Finished.{Finished}
use Rattle.lay_cells.specs.declared.answers.Released.{Released}

-- how many grants an answer is
abbrev pub grants : Claimed → ℕ
grants (Granted number) = 1
grants Reused = 0
grants (Taken number) = 0

-- how many claims of these cells were granted
abbrev pub laid_of_all : {K I V : Type 0} → List (Row K I V) → ℕ
laid_of_all rows = sum_by (λ r. r.laid) rows

module _ (K I V : Type 0) where
  abbrev pub ClaimsCount : Type 0
  ClaimsCount = (s t : State K I V) (key : K) (input : I) (a : Claimed) → ClaimsIn s key input a t
      → laid_of_all t.rows ≡ laid_of_all s.rows + grants a

  abbrev pub FinishesCount : Type 0
  FinishesCount = (s t : State K I V) (d : Solved K I V) (a : Finished) → FinishesIn s d a t → laid_of_all t.rows ≡ laid_of_all s.rows

  abbrev pub GiveBacksCount : Type 0
  GiveBacksCount = (s t : State K I V) (key : K) (number : ℕ) (a : Released) → GivesBackIn s key number a t
      → laid_of_all t.rows ≡ laid_of_all s.rows

  abbrev pub MarksCount : Type 0
  MarksCount = (rows new : List (Row K I V)) (keys : List K) → Marks rows keys new → laid_of_all new ≡ laid_of_all rows

  -- cells that are dropped take their counts with them, and those that are made have none
  abbrev pub ReshapesCount : Type 0
  ReshapesCount = (s t : State K I V) (entries : List (Entry K)) (fresh : List K) → IsShape entries → Reshapes s entries fresh t
      → laid_of_all t.rows ≤ laid_of_all s.rows

  -- what is kept was granted once
  abbrev pub CleanCellsCount : (I → V → Type 0) → Type 0
  CleanCellsCount relates = (s : State K I V) → IsSound relates s → AllClean s.rows → length s.rows ≤ laid_of_all s.rows

  -- a new shape draws at most a number for each cell
  abbrev pub ReshapesDraw : Type 0
  ReshapesDraw = (s t : State K I V) (entries : List (Entry K)) (fresh : List K) → Reshapes s entries fresh t
      → (s.draws ≤ t.draws) × (t.draws ≤ s.draws + length entries)

  -- and where there was none it draws one for each
  abbrev pub FirstShapesDraw : Type 0
  FirstShapesDraw = (draws : ℕ) (t : State K I V) (entries : List (Entry K)) (fresh : List K)
      → Reshapes (record { rows = []; draws = draws }) entries fresh t
      → t.draws ≡ draws + length t.rows
