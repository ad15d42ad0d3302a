use Rattle.lay_kept_cells.proofs.ListStepsLemmas.KeptCells.{lists_keep_cells_lem}
use Rattle.lay_kept_cells.proofs.list_steps.laws.lists_keep_cells.Goals as goal

pub returns : goal.returns
returns c = lists_keep_cells_lem c.inputs_are_kept.ensures
