use Rattle.lay_abspos.specs.Relative.SubtreeEnds.{AreEndsTo}
use Rattle.lay_abspos.proofs.relative.subtree_end.subtree_ends.Given as goal

abbrev pub invariant-loop-k : goal.invariant-loop-k
invariant-loop-k l = AreEndsTo l.boxes l.ends.items l.k
