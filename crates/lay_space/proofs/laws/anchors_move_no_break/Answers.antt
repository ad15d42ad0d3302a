use Rattle.lay_space.proofs.AnchorCuts.{anchors_move_no_break_lem}
use Rattle.lay_space.proofs.laws.anchors_move_no_break.Goals as goal

pub returns : goal.returns
returns c = anchors_move_no_break_lem
