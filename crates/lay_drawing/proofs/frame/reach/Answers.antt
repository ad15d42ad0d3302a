use Rattle.std.proofs.Common.{rules}
use Rattle.lay_drawing.specs.Frames.{reach}
use Rattle.lay_drawing.proofs.frame.reach.Goals as goal

pub returns : goal.returns
unfolding reach
returns c = search rules
