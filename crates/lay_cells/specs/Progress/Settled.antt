-- How a cell that is ready becomes clean: its kept pair is of the input that is handed in, or work on that input is finished right after
-- the claim of it.
use Rattle.std.specs.Prelude.{ℕ, ◌≡◌, ◌≢◌, false, List, length, map, slice_get, Option, None, Some}
use Rattle.lay_cells.specs.Rows.{Row, State, entry_of}
use Rattle.lay_cells.specs.Shapes.{IsShape}
use Rattle.lay_cells.specs.Sound.{IsSound}
use Rattle.lay_cells.specs.Steps.{ClaimsIn, FinishesIn, GivesBackIn}
use Rattle.lay_cells.specs.declared.answers.Claimed.{Claimed}
use Rattle.lay_cells.specs.declared.answers.Claimed.TheVariants.{Granted, Reused, Taken}
use Rattle.lay_cells.specs.declared.answers.Finished.{Finished}
use Rattle.lay_cells.specs.declared.answers.Finished.TheVariants.{Cleaned}
use Rattle.lay_cells.specs.declared.answers.Released.{Released as Answer}
use Rattle.lay_cells.specs.declared.answers.Released.TheVariants.{Released}

-- the number under which the value is to be finished, if it isn't kept
abbrev pub claim_number : Claimed → Option ℕ
claim_number (Granted number) = Some number
claim_number Reused = None
claim_number (Taken number) = Some number

module _ {K I V : Type 0} where
  -- the cell at the place is clean, and each other one is as it was
  pub record CleansAt (rows : List (Row K I V)) (place : ℕ) (new : List (Row K I V)) : Type 0 where
    pub same : length new ≡ length rows
    pub clean : (r : Row K I V) → slice_get new place ≡ Some r → r.dirty ≡ false
    pub others : (j : ℕ) → j ≢ place → slice_get new j ≡ slice_get rows j

module _ (K I V : Type 0) where
  abbrev pub ReusedCellsAreClean : Type 0
  ReusedCellsAreClean = (s t : State K I V) (place : ℕ) (r : Row K I V) (input : I) → IsShape (map entry_of s.rows)
      → slice_get s.rows place ≡ Some r → ClaimsIn s r.key input Reused t → CleansAt s.rows place t.rows

module _ (K I V : Type 0) (relates : I → V → Type 0) where
  -- work that is finished right after its claim cleans the cell
  abbrev pub FinishedCellsAreClean : Type 0
  FinishedCellsAreClean =
      (s t u : State K I V) (place : ℕ) (r : Row K I V) (input : I) (value : V) (number : ℕ) (c : Claimed) (a : Finished)
      → IsSound relates s → slice_get s.rows place ≡ Some r → ClaimsIn s r.key input c t → claim_number c ≡ Some number
      → FinishesIn t (record { key = r.key; number = number; input = input; value = value }) a u
      → (a ≡ Cleaned) × CleansAt s.rows place u.rows

  -- a claim that was granted is open right after it
  abbrev pub GrantedClaimsAreReleased : Type 0
  GrantedClaimsAreReleased = (s t u : State K I V) (key : K) (input : I) (number : ℕ) (a : Answer) → IsSound relates s
      → ClaimsIn s key input (Granted number) t → GivesBackIn t key number a u → a ≡ Released
