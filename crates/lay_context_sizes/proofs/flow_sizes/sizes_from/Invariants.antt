use Rattle.lay_context_sizes.proofs.SizeSteps.{SizesTo}
use Rattle.lay_context_sizes.proofs.flow_sizes.sizes_from.Given as goal

abbrev pub invariant-loop-k : goal.invariant-loop-k
invariant-loop-k l = SizesTo l.fn.own l.boxes l.sizes.items l.k
