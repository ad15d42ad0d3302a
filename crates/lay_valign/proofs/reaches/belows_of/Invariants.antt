use Rattle.lay_valign.specs.Subtrees.{below_of}
use Rattle.lay_valign.specs.Pass.Reaches.{ReachesTo}
use Rattle.lay_valign.proofs.reaches.belows_of.Given as goal

abbrev pub invariant-loop-k : goal.invariant-loop-k
invariant-loop-k l = ReachesTo l.roots (below_of l.parts l.rises) l.k l.belows.items
