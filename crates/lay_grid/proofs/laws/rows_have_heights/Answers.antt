use Rattle.lay_grid.proofs.Exists.{rows_have_heights_lem}
use Rattle.lay_grid.proofs.laws.rows_have_heights.Goals as goal

pub returns : goal.returns
returns c = rows_have_heights_lem
