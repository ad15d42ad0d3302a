use Rattle.lay_flow_boxes.specs.AloneInLines.{AreAlone}
use Rattle.lay_flow_boxes.proofs.inline_containers.leave_out_holders.Given as goal

abbrev pub invariant-loop-k : goal.invariant-loop-k
invariant-loop-k l = AreAlone l.boxes l.containers l.k
