use Rattle.lay_core.proofs.CoreLawsLemmas.ReachedTurns.{turns_are_changes_lem}
use Rattle.lay_core.proofs.core_laws.laws.turns_are_changes.Goals as goal

pub returns : goal.returns
returns c = turns_are_changes_lem c.turns_are_of_versions.ensures c.turns_are_few.ensures
