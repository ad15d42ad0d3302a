use Rattle.lay_grid.proofs.AutomaticLemmas.Exists.{columns_have_bounds_lem}
use Rattle.lay_grid.proofs.automatic.laws.columns_have_bounds.Goals as goal

pub returns : goal.returns
returns c = columns_have_bounds_lem
