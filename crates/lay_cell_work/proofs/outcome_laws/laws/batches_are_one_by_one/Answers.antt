use Rattle.lay_cell_work.proofs.OutcomeLawsLemmas.Works.{batches_are_one_by_one_lem}
use Rattle.lay_cell_work.proofs.outcome_laws.laws.batches_are_one_by_one.Goals as goal

pub returns : goal.returns
returns c = batches_are_one_by_one_lem c.one_work.ensures
