use Rattle.lay_contexts.specs.ContextList.{AreNumberedTo}
use Rattle.lay_contexts.proofs.context_list.number_inner.Given as goal

abbrev pub invariant-loop-j : goal.invariant-loop-j
invariant-loop-j l = AreNumberedTo l.list.spots.items l.list.boxes.items l.items.items l.j
