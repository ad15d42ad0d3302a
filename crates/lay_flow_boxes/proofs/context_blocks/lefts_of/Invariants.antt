use Rattle.lay_flow_boxes.proofs.LeftSteps.{LeftsTo}
use Rattle.lay_flow_boxes.proofs.context_blocks.lefts_of.Given as goal

abbrev pub invariant-loop-k : goal.invariant-loop-k
invariant-loop-k l = LeftsTo l.input.boxes l.input.sizes l.input.inner l.lefts.items l.k
