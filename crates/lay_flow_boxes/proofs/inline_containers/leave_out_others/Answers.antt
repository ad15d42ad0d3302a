use Rattle.std.proofs.Common.{rules}
use Rattle.lay_flow_boxes.proofs.AloneSteps.{left_more}
use Rattle.lay_flow_boxes.proofs.inline_containers.leave_out_others.Goals as goal

pub loop-k-preserved : goal.loop-k-preserved
loop-k-preserved c = left_more c.args.boxes.now c.loop-k.containers c.loop-k.k _ c.loop-k.invariant (search rules) (search rules)
