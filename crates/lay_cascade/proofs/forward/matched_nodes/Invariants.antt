use Rattle.std.proofs.Common.{◌-◌, ◌<◌, length}
use Rattle.lay_cascade.specs.Columns.{IsColumn, ComeTo}
use Rattle.lay_cascade.proofs.forward.matched_nodes.Given as goal

abbrev pub invariant-loop-done : goal.invariant-loop-done
invariant-loop-done l = record {
  some : 0 < l.done;
  come : IsColumn (length l.named.nodes.now) (ComeTo l.named.nodes.now l.named.names.now l.steps l.done) l.ends.items;
}

abbrev pub decreases-loop-done : goal.decreases-loop-done
decreases-loop-done l = length l.steps - l.done
