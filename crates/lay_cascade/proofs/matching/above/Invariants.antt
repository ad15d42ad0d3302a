use Rattle.std.proofs.Common.{◌<◌, length}
use Rattle.lay_cascade.proofs.Leading.{IsClimbed}
use Rattle.lay_cascade.proofs.matching.above.Given as goal

abbrev pub invariant-loop-at : goal.invariant-loop-at
invariant-loop-at l = record {
  within : l.at < length l.named.nodes.now;
  climbed : IsClimbed l.named.nodes.now l.named.names.now l.place l.simple l.at l.found.items;
}

abbrev pub decreases-loop-at : goal.decreases-loop-at
decreases-loop-at l = l.at
