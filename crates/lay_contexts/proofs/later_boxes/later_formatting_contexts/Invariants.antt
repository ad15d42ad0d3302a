use Rattle.lay_contexts.specs.KeptLinks.{FollowTo}
use Rattle.lay_contexts.proofs.later_boxes.later_formatting_contexts.Given as goal

abbrev pub invariant-loop-i : goal.invariant-loop-i
invariant-loop-i l = FollowTo l.of.contexts.now l.of.later.now l.of.all.now l.items.items l.i 0
