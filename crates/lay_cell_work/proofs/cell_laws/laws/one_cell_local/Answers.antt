use Rattle.lay_cell_work.proofs.CellLawsLemmas.OneCell.{one_cell_local_lem}
use Rattle.lay_cell_work.proofs.cell_laws.laws.one_cell_local.Goals as goal

pub returns : goal.returns
returns c = one_cell_local_lem c.one_local.ensures
