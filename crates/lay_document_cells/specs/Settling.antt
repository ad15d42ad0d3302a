-- Settling: the first dirty cell is claimed for what it is given now, and unless its value is kept, that is computed and finished; and so
-- on, until each cell is clean or memory runs out.
use Rattle.std.specs.Prelude.{ℕ, ◌≡◌, ◌⊎◌, ◌+◌, ◌≤◌, ◌<◌, false, List, length, slice_get, Some}
use Rattle.lay_cells.specs.Looks.{IsAt}
use Rattle.lay_cells.specs.Reads.{AllClean, IsFirstDirtyKey}
use Rattle.lay_cells.specs.Steps.{IsOpen}
use Rattle.lay_cells.specs.declared.answers.Claimed.{Claimed}
use Rattle.lay_cells.specs.declared.answers.Claimed.TheVariants.{Granted, Reused, Taken}
use Rattle.lay_cells.specs.declared.answers.Finished.{Finished}
use Rattle.lay_cells.specs.declared.answers.Finished.TheVariants.{Cleaned}
use Rattle.lay_cells.specs.declared.answers.Released.{Released as Answer}
use Rattle.lay_cells.specs.declared.answers.Released.TheVariants.{Released}
use Rattle.lay_cells.specs.Progress.Settled.{claim_number}
use Rattle.lay_shape.specs.declared.cell_key.CellKey.{CellKey}
use Rattle.lay_cell_work.specs.CellInputs.{CellInput}
use Rattle.lay_cell_work.specs.CellValues.{CellValue}
use Rattle.lay_cell_work.specs.CellLaws.SoundCells.{CellRow}
use Rattle.lay_document_cells.specs.State.{State}
use Rattle.lay_document_cells.specs.Steps.{ClaimsTo, CellsFinishTo, CellsGiveBackTo}

-- a claim of the first dirty cell
pub record ClaimsFirst (s : State) (key : CellKey) (input : CellInput) (answer : Claimed) (t : State) : Type 0 where
  pub first : IsFirstDirtyKey s.cells.rows key
  pub claims : ClaimsTo s key input answer t

-- the first dirty cell is clean: its kept value is of what it is given now, or the value of that is finished, under the number of the
-- open claim of it, which may be another's
pub data SettlesFirst (s : State) : State → Type 0 where
  reused : (key : CellKey) (input : CellInput) (t : State) → ClaimsFirst s key input Reused t → SettlesFirst s t
  computed : (key : CellKey) (input : CellInput) (value : CellValue) (answer : Claimed) (number : ℕ) (mid t : State)
      → ClaimsFirst s key input answer mid → claim_number answer ≡ Some number
      → CellsFinishTo mid (record { key = key; number = number; input = input; value = value }) Cleaned t → SettlesFirst s t

-- so are cells one after another
pub data Settles (s : State) : State → Type 0 where
  none : Settles s s
  next : (mid t : State) → Settles s mid → SettlesFirst mid t → Settles s t

-- and then each cell is clean
pub record CellsSettleTo (s t : State) : Type 0 where
  pub settles : Settles s t
  pub clean : AllClean t.cells.rows

-- memory ran out at the first dirty cell: before it was claimed, or before its value was known; a claim that was granted for it is given
-- back, and another's stays open
pub data GivesUp (s : State) : State → Type 0 where
  unclaimed : GivesUp s s
  taken : (key : CellKey) (input : CellInput) (number : ℕ) (t : State) → ClaimsFirst s key input (Taken number) t → GivesUp s t
  granted : (key : CellKey) (input : CellInput) (number : ℕ) (mid t : State) → ClaimsFirst s key input (Granted number) mid
      → CellsGiveBackTo mid key number Released t → GivesUp s t

-- what was finished until then stays clean
pub record CellsStopAt (s t : State) : Type 0 where
  pub before : State
  pub settles : Settles s before
  pub gives_up : GivesUp before t

-- the cells before the place are clean
abbrev pub AreCleanBefore : List CellRow → ℕ → Type 0
AreCleanBefore rows place = (j : ℕ) (r : CellRow) → j < place → slice_get rows j ≡ Some r → r.dirty ≡ false

-- the cell at the place is clean too, for which it was settled if it was dirty
pub record SettlesAt (s : State) (place : ℕ) (t : State) : Type 0 where
  pub settles : (t ≡ s) ⊎ SettlesFirst s t
  pub clean : AreCleanBefore t.cells.rows (place + 1)
  pub count : length t.cells.rows ≡ length s.cells.rows
  pub draws : t.cells.draws ≤ s.cells.draws + 1

-- memory ran out there
pub record GivesUpAt (s t : State) : Type 0 where
  pub gives_up : GivesUp s t
  pub draws : t.cells.draws ≤ s.cells.draws + 1

-- if the open claim of the key has this number, it is of this input
abbrev pub IsClaimedFor : State → CellKey → ℕ → CellInput → Type 0
IsClaimedFor s key number input = (i : ℕ) (r : CellRow) → IsAt s.cells.rows key i r → IsOpen r number → r.given ≡ Some input

-- work on this input is finished under the number of a claim, whatever comes of it
pub record FinishesWork (s : State) (key : CellKey) (number : ℕ) (input : CellInput) (t : State) : Type 0 where
  pub value : CellValue
  pub answer : Finished
  pub finishes : CellsFinishTo s (record { key = key; number = number; input = input; value = value }) answer t

-- the claim of this number is given back, whatever comes of it
pub record GivesBackWork (s : State) (key : CellKey) (number : ℕ) (t : State) : Type 0 where
  pub answer : Answer
  pub gives_back : CellsGiveBackTo s key number answer t
