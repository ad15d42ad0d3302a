use Rattle.lay_after_edits.specs.Contexts.Reach.{AreReachFlags}
use Rattle.lay_after_edits.proofs.contexts.reach.reached_flags.Given as goal

abbrev pub invariant-loop-i : goal.invariant-loop-i
invariant-loop-i l = AreReachFlags l.reach l.places l.flags.items l.i
