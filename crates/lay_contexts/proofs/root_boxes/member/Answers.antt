use Rattle.std.proofs.Common.{arith}
use Rattle.lay_contexts.proofs.root_boxes.member.Goals as goal

pub overflow_cast-parent : goal.overflow_cast-parent
overflow_cast-parent c = omega (arith, c.box_parent.ensures.small, c.place_inside-parent.ensures.low)
