use Rattle.lay_core.proofs.One.{one_settling as holds}
use Rattle.lay_core.proofs.laws.one_settling.Goals as goal

pub returns : goal.returns
returns c = holds
