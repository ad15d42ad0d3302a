use Rattle.lay_core.proofs.CoreLawsLemmas.ReadyGiven.{ready_cells_are_given_lem}
use Rattle.lay_core.proofs.core_laws.laws.ready_cells_are_given.Goals as goal

pub returns : goal.returns
returns c = ready_cells_are_given_lem
