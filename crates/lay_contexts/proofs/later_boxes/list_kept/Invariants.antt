use Rattle.lay_contexts.specs.KeptLinks.{FollowTo}
use Rattle.lay_contexts.proofs.later_boxes.list_kept.Given as goal

abbrev pub invariant-loop-r : goal.invariant-loop-r
invariant-loop-r l = FollowTo l.of.contexts.now l.of.later.now l.of.all.now l.items.items l.i l.r
