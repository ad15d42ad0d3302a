use Rattle.lay_history.proofs.Shown.{one_history}
use Rattle.lay_history.proofs.laws.one_history.Goals as goal

pub returns : goal.returns
returns c = one_history
