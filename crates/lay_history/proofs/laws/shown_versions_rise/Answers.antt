use Rattle.lay_history.proofs.ShownVersions.{shown_versions_rise}
use Rattle.lay_history.proofs.laws.shown_versions_rise.Goals as goal

pub returns : goal.returns
returns c = shown_versions_rise
