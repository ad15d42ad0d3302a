use Rattle.lay_measure.proofs.FromZero.{widths_from_zero}
use Rattle.lay_measure.proofs.laws.preferred_widths_are_from_zero.Goals as goal

pub returns : goal.returns
returns c = widths_from_zero
