use Rattle.lay_document_cells.proofs.CountedCells.{clean_cells_are_counted_lem}
use Rattle.lay_document_cells.proofs.laws.clean_cells_are_counted.Goals as goal

pub returns : goal.returns
returns c = clean_cells_are_counted_lem c.clean_cells_count.ensures c.contexts_are_of_own_nodes.ensures
