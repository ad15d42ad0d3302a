use Rattle.lay_document_cells.proofs.Working.{work_keeps_cells_lem}
use Rattle.lay_document_cells.proofs.laws.work_keeps_cells.Goals as goal

pub returns : goal.returns
returns c = work_keeps_cells_lem c.claims_keep_rows.ensures c.finishes_keep_rows.ensures c.give_backs_keep_rows.ensures c.keeping_is_transitive.ensures c.claims_count.ensures c.finishes_count.ensures c.give_backs_count.ensures
