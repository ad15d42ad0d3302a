use Rattle.lay_grid.proofs.RowBaselines.{one_row_baselines_lem}
use Rattle.lay_grid.proofs.laws.one_row_baselines.Goals as goal

pub returns : goal.returns
returns c = one_row_baselines_lem
