use Rattle.lay_grid.proofs.AutomaticLemmas.WithinBounds.{bounds_are_within_lem}
use Rattle.lay_grid.proofs.automatic.laws.bounds_are_within.Goals as goal

pub returns : goal.returns
returns c = bounds_are_within_lem
