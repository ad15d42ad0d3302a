use Rattle.lay_contexts.proofs.ListLaws.{one_list}
use Rattle.lay_contexts.proofs.formatting_laws.one_formatting_context_list.Goals as goal

pub returns : goal.returns
returns c = one_list
