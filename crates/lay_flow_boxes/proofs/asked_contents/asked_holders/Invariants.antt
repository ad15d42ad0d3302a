use Rattle.lay_flow_boxes.proofs.AskedSteps.{HoldersTo}
use Rattle.lay_flow_boxes.proofs.asked_contents.asked_holders.Given as goal

abbrev pub invariant-loop-k : goal.invariant-loop-k
invariant-loop-k l = HoldersTo l.asked l.boxes l.holders.items l.k
