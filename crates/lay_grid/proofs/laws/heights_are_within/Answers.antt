use Rattle.lay_grid.proofs.HeightsWithin.{heights_are_within_lem}
use Rattle.lay_grid.proofs.laws.heights_are_within.Goals as goal

pub returns : goal.returns
returns c = heights_are_within_lem
