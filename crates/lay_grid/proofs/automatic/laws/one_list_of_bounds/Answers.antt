use Rattle.lay_grid.proofs.AutomaticLemmas.OneBounds.{one_list_of_bounds_lem}
use Rattle.lay_grid.proofs.automatic.laws.one_list_of_bounds.Goals as goal

pub returns : goal.returns
returns c = one_list_of_bounds_lem
