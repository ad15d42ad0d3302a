use Rattle.lay_contexts.proofs.ContextNumbers.{one_context_list_lem}
use Rattle.lay_contexts.proofs.laws.one_context_list.Goals as goal

pub returns : goal.returns
returns c = one_context_list_lem
