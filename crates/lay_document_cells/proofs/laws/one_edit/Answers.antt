use Rattle.lay_document_cells.proofs.OneEdits.{one_edit_lem}
use Rattle.lay_document_cells.proofs.laws.one_edit.Goals as goal

pub returns : goal.returns
returns c = one_edit_lem c.one_list_of_touched_keys.ensures c.one_reshape.ensures c.one_marking.ensures c.one_style_column.ensures c.one_context_list.ensures c.one_formatting_context_list.ensures c.cells_have_a_shape.ensures c.contexts_are_of_own_nodes.ensures
