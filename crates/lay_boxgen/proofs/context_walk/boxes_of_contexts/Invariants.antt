use Rattle.std.proofs.Common.{◌-◌}
use Rattle.lay_boxgen.specs.ContextWalk.{IsWalkedTo}
use Rattle.lay_boxgen.proofs.context_walk.boxes_of_contexts.Given as goal

abbrev pub invariant-loop-done : goal.invariant-loop-done
invariant-loop-done l = IsWalkedTo l.sources.nodes.now l.sources.styles.now l.places (l.count - l.done) l.walk.stack.items l.walk.boxes.items l.walk.left
