use Rattle.lay_abspos.proofs.RelativeLemmas.Ends.{Closing}
use Rattle.lay_abspos.proofs.relative.subtree_end.end_at.Given as goal

abbrev pub invariant-loop-at : goal.invariant-loop-at
invariant-loop-at l = Closing l.boxes l.ends l.k l.at

abbrev pub decreases-loop-at : goal.decreases-loop-at
decreases-loop-at l = l.at
