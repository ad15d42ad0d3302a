use Rattle.lay_document_cells.proofs.Working.{stopping_works_lem}
use Rattle.lay_document_cells.proofs.laws.stopping_works.Goals as goal

pub returns : goal.returns
returns c = stopping_works_lem
