use Rattle.lay_flow_boxes.proofs.InlineContainerSteps.{HoldersTo}
use Rattle.lay_flow_boxes.proofs.inline_containers.holders.Given as goal

abbrev pub invariant-loop-k : goal.invariant-loop-k
invariant-loop-k l = HoldersTo l.level l.boxes l.holders.items l.k
