use Rattle.lay_core.proofs.One.{one_refreshing as holds}
use Rattle.lay_core.proofs.laws.one_refreshing.Goals as goal

pub returns : goal.returns
returns c = holds c.one_solution.ensures
