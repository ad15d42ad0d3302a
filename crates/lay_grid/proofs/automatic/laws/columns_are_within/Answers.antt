use Rattle.lay_grid.proofs.AutomaticLemmas.Fills.{columns_are_within_lem}
use Rattle.lay_grid.proofs.automatic.laws.columns_are_within.Goals as goal

pub returns : goal.returns
returns c = columns_are_within_lem
