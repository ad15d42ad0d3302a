use Rattle.lay_contexts.proofs.ContextNumbers.{AreBlankTo}
use Rattle.lay_contexts.proofs.context_list.without_inner.Given as goal

abbrev pub invariant-loop-i : goal.invariant-loop-i
invariant-loop-i l = AreBlankTo l.list.spots.items l.list.boxes.items l.items.items l.i
