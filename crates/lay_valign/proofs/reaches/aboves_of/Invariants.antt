use Rattle.lay_valign.specs.Subtrees.{above_of}
use Rattle.lay_valign.specs.Pass.Reaches.{ReachesTo}
use Rattle.lay_valign.proofs.reaches.aboves_of.Given as goal

abbrev pub invariant-loop-k : goal.invariant-loop-k
invariant-loop-k l = ReachesTo l.roots (above_of l.parts l.rises) l.k l.aboves.items
