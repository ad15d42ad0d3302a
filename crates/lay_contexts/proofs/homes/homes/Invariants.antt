use Rattle.lay_contexts.proofs.NearestRoots.{HomesTo}
use Rattle.lay_contexts.proofs.homes.homes.Given as goal

abbrev pub invariant-loop-k : goal.invariant-loop-k
invariant-loop-k l = HomesTo l.boxes l.homes.items l.k
