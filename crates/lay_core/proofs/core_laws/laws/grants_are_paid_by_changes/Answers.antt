use Rattle.lay_core.proofs.CoreLawsLemmas.ReachedTurns.{grants_are_paid_by_changes_lem}
use Rattle.lay_core.proofs.core_laws.laws.grants_are_paid_by_changes.Goals as goal

pub returns : goal.returns
returns c = grants_are_paid_by_changes_lem c.turns_are_changes.ensures
