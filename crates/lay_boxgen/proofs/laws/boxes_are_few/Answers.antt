use Rattle.lay_boxgen.proofs.FewBoxes.{boxes_are_few}
use Rattle.lay_boxgen.proofs.laws.boxes_are_few.Goals as goal

pub returns : goal.returns
returns c = boxes_are_few
