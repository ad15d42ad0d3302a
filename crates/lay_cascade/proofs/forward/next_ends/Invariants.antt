use Rattle.std.proofs.Common.{◌+◌}
use Rattle.lay_cascade.specs.Columns.{IsColumn, ComeTo}
use Rattle.lay_cascade.specs.Reading.{AreRead}
use Rattle.lay_cascade.proofs.forward.next_ends.Given as goal

abbrev pub invariant-loop-k : goal.invariant-loop-k
invariant-loop-k l = record {
  read : AreRead l.named.nodes.now l.named.names.now l.window l.k l.here.items l.above.items;
  next : IsColumn l.k (ComeTo l.named.nodes.now l.named.names.now l.window.steps.now (l.window.from + l.window.count)) l.next.items;
}
