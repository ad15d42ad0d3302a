use Rattle.lay_contexts.proofs.EditedLemmas.StrayNodes.{anonymous_tables_stand_by_nodes}
use Rattle.lay_contexts.proofs.edited.laws.anonymous_tables_stand_by_nodes.Goals as goal

pub returns : goal.returns
returns c = anonymous_tables_stand_by_nodes
