-- Cells that keep what they would be given now, so that no input need be made of them to claim them.
use Rattle.lay_cells.specs.Reuses.{CanReuse}
use Rattle.lay_cells.specs.Steps.{HasKept}
use Rattle.lay_cells.specs.declared.answers.Claimed.TheVariants.{Reused}
use Rattle.lay_shape.specs.declared.cell_key.CellKey.{CellKey}
use Rattle.lay_cell_work.specs.CellInputs.{CellInput}
use Rattle.lay_cell_work.specs.CellLaws.SoundCells.{CellRow}
use Rattle.lay_document_cells.specs.State.{State}
use Rattle.lay_document_cells.specs.Steps.{ClaimsTo, IsGivenNow}

-- the cell of the row keeps what it is given now
pub record KeepsGiven (s : State) (r : CellRow) : Type 0 where
  pub input : CellInput
  pub given : IsGivenNow s r.key input
  pub kept : HasKept r input

-- and no claim is open for that
pub record CanReuseGiven (s : State) (r : CellRow) : Type 0 where
  pub keeps : KeepsGiven s r
  pub can : CanReuse r

-- the cell of the key is claimed for what it is given now, and its value serves again
pub record ReusesGiven (s : State) (key : CellKey) (t : State) : Type 0 where
  pub input : CellInput
  pub claims : ClaimsTo s key input Reused t
