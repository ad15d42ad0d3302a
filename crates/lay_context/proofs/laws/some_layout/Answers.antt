use Rattle.lay_context.proofs.SomeLayout.{some_layout_lem}
use Rattle.lay_context.proofs.laws.some_layout.Goals as goal

pub returns : goal.returns
returns c = some_layout_lem c.some_tree.ensures c.formatting_contexts_stand_in_order.ensures
