use Rattle.lay_cell_work.proofs.CellLawsLemmas.Counterparts.{counterparts_lem}
use Rattle.lay_cell_work.proofs.cell_laws.laws.counterparts_are_of_one_node.Goals as goal

pub returns : goal.returns
returns c = counterparts_lem
