use Rattle.lay_grid.proofs.AutomaticLemmas.ByNeed.{cells_widen_by_need_lem}
use Rattle.lay_grid.proofs.automatic.laws.cells_widen_by_need.Goals as goal

pub returns : goal.returns
returns c = cells_widen_by_need_lem
