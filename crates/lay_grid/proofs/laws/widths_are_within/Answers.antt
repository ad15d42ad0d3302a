use Rattle.lay_grid.proofs.WidthsWithin.{widths_are_within_lem}
use Rattle.lay_grid.proofs.laws.widths_are_within.Goals as goal

pub returns : goal.returns
returns c = widths_are_within_lem
