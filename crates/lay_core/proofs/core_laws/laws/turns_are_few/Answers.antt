use Rattle.lay_core.proofs.CoreLawsLemmas.ListedChanges.{turns_are_few_lem}
use Rattle.lay_core.proofs.core_laws.laws.turns_are_few.Goals as goal

pub returns : goal.returns
returns c = turns_are_few_lem c.one_given_input.ensures
