use Rattle.lay_valign.specs.LineShape.{beyond}
use Rattle.lay_valign.specs.Pass.Reaches.{IsRaisedTo}
use Rattle.lay_valign.proofs.line.extended.Given as goal

abbrev pub invariant-loop-k : goal.invariant-loop-k
invariant-loop-k l = IsRaisedTo l.edge l.parts (beyond l.subtrees l.other) l.least l.k l.reach
