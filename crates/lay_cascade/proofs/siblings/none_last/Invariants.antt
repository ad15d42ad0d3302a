use Rattle.std.proofs.Common.{◌≡◌, None, replicate}
use Rattle.lay_cascade.proofs.siblings.none_last.Given as goal

abbrev pub invariant-loop-k : goal.invariant-loop-k
invariant-loop-k l = l.last.items ≡ replicate l._k None
