use Rattle.lay_core.proofs.CoreLawsLemmas.ListedChanges.{one_list_of_changes_lem}
use Rattle.lay_core.proofs.core_laws.laws.one_list_of_changes.Goals as goal

pub returns : goal.returns
returns c = one_list_of_changes_lem c.one_given_input.ensures
