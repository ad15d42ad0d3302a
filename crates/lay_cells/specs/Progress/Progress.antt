-- What work on cells leaves as it is: a claim, finished work and a claim that is given back make no cell, drop none and dirty none.
use Rattle.std.specs.Prelude.{ℕ, ◌≡◌, ◌+◌, ◌≤◌, false, List, map, slice_get, Some}
use Rattle.lay_cells.specs.Rows.{Row, Solved, State, entry_of}
use Rattle.lay_cells.specs.Steps.{ClaimsIn, FinishesIn, GivesBackIn}
use Rattle.lay_cells.specs.declared.answers.Claimed.{Claimed}
use Rattle.lay_cells.specs.declared.answers.Finished.{Finished}
use Rattle.lay_cells.specs.declared.answers.Released.{Released}

module _ {K I V : Type 0} where
  -- each of these cells that is clean is clean among those
  abbrev pub StayClean : (rows later : List (Row K I V)) → Type 0
  StayClean rows later = (i : ℕ) (r q : Row K I V) → slice_get rows i ≡ Some r → slice_get later i ≡ Some q
      → r.dirty ≡ false → q.dirty ≡ false

  -- no cell is made anew, dropped or dirtied
  pub record KeepsRows (s t : State K I V) : Type 0 where
    pub entries : map entry_of t.rows ≡ map entry_of s.rows
    pub made : map (λ r. r.first) t.rows ≡ map (λ r. r.first) s.rows
    pub clean : StayClean s.rows t.rows
    pub draws : s.draws ≤ t.draws

  -- no claim is given back
  abbrev pub GivesNoneBack : (s t : State K I V) → Type 0
  GivesNoneBack s t = map (λ r. r.backs) t.rows ≡ map (λ r. r.backs) s.rows

module _ (K I V : Type 0) where
  abbrev pub KeepingIsTransitive : Type 0
  KeepingIsTransitive = (s t u : State K I V) → KeepsRows s t → KeepsRows t u → KeepsRows s u

  abbrev pub ClaimsKeepRows : Type 0
  ClaimsKeepRows = (s t : State K I V) (key : K) (input : I) (a : Claimed) → ClaimsIn s key input a t
      → KeepsRows s t × (t.draws ≤ s.draws + 1) × GivesNoneBack s t

  abbrev pub FinishesKeepRows : Type 0
  FinishesKeepRows = (s t : State K I V) (d : Solved K I V) (a : Finished) → FinishesIn s d a t
      → KeepsRows s t × (t.draws ≡ s.draws) × GivesNoneBack s t

  abbrev pub GiveBacksKeepRows : Type 0
  GiveBacksKeepRows = (s t : State K I V) (key : K) (number : ℕ) (a : Released) → GivesBackIn s key number a t
      → KeepsRows s t × (t.draws ≡ s.draws)
