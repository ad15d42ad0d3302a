use Rattle.lay_flow_boxes.proofs.AloneSteps.{LeftTo}
use Rattle.lay_flow_boxes.proofs.inline_containers.leave_out_others.Given as goal

abbrev pub invariant-loop-k : goal.invariant-loop-k
invariant-loop-k l = LeftTo l.boxes l.containers l.k
