use Rattle.lay_document_cells.proofs.ListedContexts.{trees_list_contexts_lem}
use Rattle.lay_document_cells.proofs.laws.trees_list_contexts.Goals as goal

pub returns : goal.returns
returns c = trees_list_contexts_lem
