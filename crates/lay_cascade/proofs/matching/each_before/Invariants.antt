use Rattle.std.proofs.Common.{take}
use Rattle.lay_cascade.specs.Rising.{AreBefore}
use Rattle.lay_cascade.proofs.matching.each_before.Given as goal

abbrev pub invariant-loop-k : goal.invariant-loop-k
invariant-loop-k l = AreBefore l.named.nodes.now l.named.names.now (take l.k l.places) l.joint l.simple l.found.items
