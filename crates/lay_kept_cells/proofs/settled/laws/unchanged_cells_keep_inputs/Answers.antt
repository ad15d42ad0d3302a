use Rattle.lay_kept_cells.proofs.SettledLemmas.UnchangedInputs.{unchanged_cells_keep_inputs_lem}
use Rattle.lay_kept_cells.proofs.settled.laws.unchanged_cells_keep_inputs.Goals as goal

pub returns : goal.returns
returns c = unchanged_cells_keep_inputs_lem c.inputs_are_kept.ensures
