use Rattle.lay_kept_cells.proofs.StepsLemmas.StepsKeep.{finishes_keep_cells_lem}
use Rattle.lay_kept_cells.proofs.steps.laws.finishes_keep_cells.Goals as goal

pub returns : goal.returns
returns c = finishes_keep_cells_lem c.inputs_are_kept.ensures
