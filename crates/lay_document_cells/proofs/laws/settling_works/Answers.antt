use Rattle.lay_document_cells.proofs.Working.{settling_works_lem}
use Rattle.lay_document_cells.proofs.laws.settling_works.Goals as goal

pub returns : goal.returns
returns c = settling_works_lem
