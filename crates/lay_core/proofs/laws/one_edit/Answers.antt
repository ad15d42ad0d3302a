use Rattle.lay_core.proofs.One.{one_edit as holds}
use Rattle.lay_core.proofs.laws.one_edit.Goals as goal

pub returns : goal.returns
returns c = holds c.one_edit.ensures
