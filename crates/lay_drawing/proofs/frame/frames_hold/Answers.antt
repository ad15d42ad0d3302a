use Rattle.lay_drawing.proofs.Frames.{hold_lem}
use Rattle.lay_drawing.proofs.frame.frames_hold.Goals as goal

pub returns : goal.returns
returns c = hold_lem
