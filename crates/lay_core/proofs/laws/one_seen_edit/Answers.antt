use Rattle.lay_core.proofs.One.{one_seen_edit as holds}
use Rattle.lay_core.proofs.laws.one_seen_edit.Goals as goal

pub returns : goal.returns
returns c = holds
