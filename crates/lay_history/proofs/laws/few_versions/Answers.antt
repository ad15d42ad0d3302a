use Rattle.lay_history.proofs.Versions.{few_versions}
use Rattle.lay_history.proofs.laws.few_versions.Goals as goal

pub returns : goal.returns
returns c = few_versions
