use Rattle.lay_contexts.proofs.OneLevels.{boxes_hold_one_level_lem}
use Rattle.lay_contexts.proofs.box_laws.boxes_hold_one_level.Goals as goal

pub returns : goal.returns
returns c = boxes_hold_one_level_lem
