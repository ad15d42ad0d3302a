use Rattle.lay_document_cells.proofs.Answered.{own_nodes}
use Rattle.lay_document_cells.proofs.document_cells.DocumentCells.new.Goals as goal

pub new_cells-requires : goal.new_cells-requires
new_cells-requires c = own_nodes c.contexts_are_of_own_nodes.ensures c.args.doc c.in_ok-table.table c.nodes.ensures.valid c.in_ok-table.ensures
