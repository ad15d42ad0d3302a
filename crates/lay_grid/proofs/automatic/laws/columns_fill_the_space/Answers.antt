use Rattle.lay_grid.proofs.AutomaticLemmas.Fills.{columns_fill_the_space_lem}
use Rattle.lay_grid.proofs.automatic.laws.columns_fill_the_space.Goals as goal

pub returns : goal.returns
returns c = columns_fill_the_space_lem
