use Rattle.std.proofs.Common.{◌-◌}
use Rattle.lay_cascade.proofs.Leading.{IsLed}
use Rattle.lay_cascade.proofs.matching.is_matched.Given as goal

abbrev pub invariant-loop-done : goal.invariant-loop-done
invariant-loop-done l = IsLed l.named.nodes.now l.named.names.now l.steps l.place (l.last - l.done) l.places.items
