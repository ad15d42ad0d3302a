use Rattle.lay_context.proofs.OneTree.{one_solution_lem}
use Rattle.lay_context.proofs.laws.one_solution.Goals as goal

pub returns : goal.returns
returns c = one_solution_lem (record {
  widths = c.one_context_widths.ensures;
  sizes = c.one_context_sizes.ensures;
  placement = c.one_placement.ensures;
  table_placement = c.one_table_placement.ensures;
}) c.one_formatting_context_list.ensures c.formatting_contexts_stand_in_order.ensures
