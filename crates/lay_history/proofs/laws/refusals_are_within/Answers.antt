use Rattle.lay_history.proofs.Refusals.{refusals_are_within}
use Rattle.lay_history.proofs.laws.refusals_are_within.Goals as goal

pub returns : goal.returns
returns c = refusals_are_within
