use Rattle.lay_contexts.proofs.OneList.{one_list_of_contexts}
use Rattle.lay_contexts.proofs.tree_laws.one_list_of_contexts.Goals as goal

pub returns : goal.returns
returns c = one_list_of_contexts
