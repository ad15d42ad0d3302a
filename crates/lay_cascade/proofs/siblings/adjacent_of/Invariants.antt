use Rattle.lay_cascade.specs.Siblings.{AdjacentTo}
use Rattle.lay_cascade.specs.LastChildren.{AreLast}
use Rattle.lay_cascade.proofs.siblings.adjacent_of.Given as goal

abbrev pub invariant-loop-k : goal.invariant-loop-k
invariant-loop-k l = record {
  last : AreLast l.nodes l.k l.last.items;
  adjacent : AdjacentTo l.nodes l.k l.adjacent.items;
}
