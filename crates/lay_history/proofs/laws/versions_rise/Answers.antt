use Rattle.lay_history.proofs.Versions.{versions_rise}
use Rattle.lay_history.proofs.laws.versions_rise.Goals as goal

pub returns : goal.returns
returns c = versions_rise
