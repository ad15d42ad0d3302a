use Rattle.lay_contexts.proofs.NearestRoots.{one_home_lem}
use Rattle.lay_contexts.proofs.formatting_laws.one_home.Goals as goal

pub returns : goal.returns
returns c = one_home_lem
