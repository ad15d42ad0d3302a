use Rattle.lay_core.proofs.CoreLawsLemmas.ReachedTurns.{grants_are_within_lem}
use Rattle.lay_core.proofs.core_laws.laws.grants_are_within.Goals as goal

pub returns : goal.returns
returns c = grants_are_within_lem c.turns_are_within.ensures
