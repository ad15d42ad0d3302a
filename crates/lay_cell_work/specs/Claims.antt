-- A claim: the leave to work out what a cell answers, under a number and for what the cell is given.
use Rattle.std.specs.Prelude.{ℕ}
use Rattle.lay_shape.specs.declared.cell_key.CellKey.{CellKey}
use Rattle.lay_cell_work.specs.CellInputs.{CellInput}

pub record Claim : Type 0 where
  pub key : CellKey
  pub number : ℕ
  pub input : CellInput
