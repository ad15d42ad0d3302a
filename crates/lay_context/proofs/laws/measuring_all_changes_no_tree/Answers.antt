use Rattle.lay_context.proofs.AllMeasured.{measuring_all_changes_no_tree_lem}
use Rattle.lay_context.proofs.laws.measuring_all_changes_no_tree.Goals as goal

pub returns : goal.returns
returns c = measuring_all_changes_no_tree_lem (record {
  widths = c.one_context_widths.ensures;
  sizes = c.one_context_sizes.ensures;
  placement = c.one_placement.ensures;
  table_placement = c.one_table_placement.ensures;
}) c.widths_count_where_shrunk.ensures c.formatting_contexts_stand_in_order.ensures
