use Rattle.lay_contexts.proofs.ListLaws.{element_contexts}
use Rattle.lay_contexts.proofs.formatting_laws.elements_are_contexts.Goals as goal

pub returns : goal.returns
returns c = element_contexts
