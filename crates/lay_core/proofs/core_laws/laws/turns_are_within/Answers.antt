use Rattle.lay_core.proofs.CoreLawsLemmas.ReachedTurns.{turns_are_within_lem}
use Rattle.lay_core.proofs.core_laws.laws.turns_are_within.Goals as goal

pub returns : goal.returns
returns c = turns_are_within_lem c.turns_are_of_versions.ensures
