use Rattle.lay_kept_cells.proofs.StepsLemmas.StepsKeep.{claims_keep_cells_lem}
use Rattle.lay_kept_cells.proofs.steps.laws.claims_keep_cells.Goals as goal

pub returns : goal.returns
returns c = claims_keep_cells_lem c.inputs_are_kept.ensures
