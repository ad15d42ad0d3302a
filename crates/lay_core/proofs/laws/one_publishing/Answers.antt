use Rattle.lay_core.proofs.One.{one_publishing as holds}
use Rattle.lay_core.proofs.laws.one_publishing.Goals as goal

pub returns : goal.returns
returns c = holds c.one_solution.ensures c.one_first_dirty.ensures
