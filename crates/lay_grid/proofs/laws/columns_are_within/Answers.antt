use Rattle.lay_grid.proofs.ColumnsWithin.{columns_are_within_lem}
use Rattle.lay_grid.proofs.laws.columns_are_within.Goals as goal

pub returns : goal.returns
returns c = columns_are_within_lem
