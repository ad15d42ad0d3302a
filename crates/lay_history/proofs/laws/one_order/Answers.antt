use Rattle.lay_history.proofs.Turns.{one_order}
use Rattle.lay_history.proofs.laws.one_order.Goals as goal

pub returns : goal.returns
returns c = one_order
