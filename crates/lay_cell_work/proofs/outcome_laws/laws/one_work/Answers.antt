use Rattle.lay_cell_work.proofs.OutcomeLawsLemmas.Works.{one_work_lem}
use Rattle.lay_cell_work.proofs.outcome_laws.laws.one_work.Goals as goal

pub returns : goal.returns
returns c = one_work_lem c.one_cell_local.ensures
