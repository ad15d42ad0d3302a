-- One walk over the cells in which the next one to claim is looked for. The cells before it are passed: each of them that is ready is
-- claimed, for what it is given now. No claim changes a cell before its own, so none of these need be seen again.
use Rattle.std.specs.Prelude.{ℕ, ◌≡◌, ◌≢◌, ◌⊎◌, ◌+◌, ◌≤◌, ◌<◌, ◌^◌, List, length, map, slice_get, Option, Some}
use Rattle.lay_cells.specs.Looks.{IsAt}
use Rattle.lay_cells.specs.Places.{IsClaimed}
use Rattle.lay_cells.specs.Rows.{entry_of}
use Rattle.lay_cell_work.specs.Claims.{Claim}
use Rattle.lay_cell_work.specs.CellLaws.SoundCells.{CellRow}
use Rattle.lay_document_cells.specs.Claims.{GrantsClaim, IsReady, Passes}
use Rattle.lay_document_cells.specs.State.{State}
use Rattle.lay_document_cells.specs.declared.walking.Passed.{Passed}
use Rattle.lay_document_cells.specs.declared.walking.Passed.TheVariants as passed

-- the cell is claimed, and this is not more than the number of its claim
pub record HasClaimFrom (r : CellRow) (least : Option ℕ) : Type 0 where
  pub number : ℕ
  pub claimed : IsClaimed r number
  pub from : ℕ
  pub from_is : least ≡ Some from
  pub le : from ≤ number

-- a cell before the place that is ready has the claim of this number
pub record HasClaimBefore (rows : List CellRow) (place number : ℕ) : Type 0 where
  pub at : ℕ
  pub row : CellRow
  pub before : at < place
  pub there : slice_get rows at ≡ Some row
  pub ready : IsReady rows row
  pub claimed : IsClaimed row number

-- the cells before the place are passed, and this is the least number of their claims
pub record IsWalked (rows : List CellRow) (place : ℕ) (least : Option ℕ) : Type 0 where
  pub within : place ≤ length rows
  pub each : (j : ℕ) (r : CellRow) → j < place → slice_get rows j ≡ Some r → IsReady rows r → HasClaimFrom r least
  pub one : (number : ℕ) → least ≡ Some number → HasClaimBefore rows place number

-- the least of these
pub record IsLesser (least : Option ℕ) (number : ℕ) (lesser : Option ℕ) : Type 0 where
  pub value : ℕ
  pub is : lesser ≡ Some value
  pub le : value ≤ number
  pub below : (n : ℕ) → least ≡ Some n → value ≤ n
  pub one : (value ≡ number) ⊎ (least ≡ Some value)

-- no cell but that at the place is changed
pub record ChangesCellAt (s : State) (place : ℕ) (t : State) : Type 0 where
  pub entries : map entry_of t.cells.rows ≡ map entry_of s.cells.rows
  pub others : (j : ℕ) → j ≢ place → slice_get t.cells.rows j ≡ slice_get s.cells.rows j
  pub draws : t.cells.draws ≤ s.cells.draws + 1

-- so that no claim is granted
pub record PassesBy (s : State) (place : ℕ) (t : State) : Type 0 where
  pub changes : ChangesCellAt s place t
  pub passes : Passes s t

-- the claim of the cell at the place is granted
pub record GrantsAt (s : State) (place : ℕ) (claim : Claim) (t : State) : Type 0 where
  pub changes : ChangesCellAt s place t
  pub row : CellRow
  pub at : IsAt s.cells.rows claim.key place row
  pub grants : GrantsClaim s claim.key claim t

abbrev pub IsNotReadyAt : List CellRow → ℕ → Type 0
IsNotReadyAt rows place = (r : CellRow) → slice_get rows place ≡ Some r → IsReady rows r → ⊥

-- the cell at the place is ready, and has the claim of this number for what it is given now
pub record IsClaimedAt (rows : List CellRow) (place number : ℕ) : Type 0 where
  pub row : CellRow
  pub there : slice_get rows place ≡ Some row
  pub ready : IsReady rows row
  pub claimed : IsClaimed row number

-- what becomes of the cell at the place
abbrev pub PassesAt : State → ℕ → Passed → State → Type 0
PassesAt s place passed.Nothing t = PassesBy s place t × IsNotReadyAt t.cells.rows place
PassesAt s place (passed.Claimed number) t = PassesBy s place t × IsClaimedAt t.cells.rows place number
PassesAt s place (passed.Granted claim) t = GrantsAt s place claim t × IsClaimedAt t.cells.rows place claim.number

-- the least number of claims, where this became of the last cell that was passed
abbrev pub IsLeastAfter : Option ℕ → Passed → Option ℕ → Type 0
IsLeastAfter least passed.Nothing after = after ≡ least
IsLeastAfter least (passed.Claimed number) after = IsLesser least number after
IsLeastAfter least (passed.Granted claim) after = IsLesser least claim.number after

-- a walk from the place draws at most a number for each cell that it passes
abbrev pub DrawsFrom : State → (from to : ℕ) → State → Type 0
DrawsFrom s from to t = (t.cells.draws ≡ s.cells.draws) ⊎ ((s.cells.draws < 2 ^ 63) × (t.cells.draws + from ≤ s.cells.draws + to))
