use Rattle.lay_core.proofs.CoreLawsLemmas.ReadyGiven.{clean_cells_are_given_lem}
use Rattle.lay_core.proofs.core_laws.laws.clean_cells_are_given.Goals as goal

pub returns : goal.returns
returns c = clean_cells_are_given_lem
