use Rattle.lay_document_cells.proofs.Working.{settling_gives_nothing_back_lem}
use Rattle.lay_document_cells.proofs.laws.settling_gives_nothing_back.Goals as goal

pub returns : goal.returns
returns c = settling_gives_nothing_back_lem c.claims_keep_rows.ensures c.finishes_keep_rows.ensures
