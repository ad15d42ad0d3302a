use Rattle.lay_kept_cells.proofs.StepsLemmas.StepsKeep.{give_backs_keep_cells_lem}
use Rattle.lay_kept_cells.proofs.steps.laws.give_backs_keep_cells.Goals as goal

pub returns : goal.returns
returns c = give_backs_keep_cells_lem c.inputs_are_kept.ensures
