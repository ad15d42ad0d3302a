use Rattle.lay_context.proofs.SharedSteps.{SharedTo}
use Rattle.lay_context.proofs.shared_contents.shared_contents.Given as goal

abbrev pub invariant-loop-i : goal.invariant-loop-i
invariant-loop-i l = SharedTo l.face.value l.contexts l.contents.items l.i
