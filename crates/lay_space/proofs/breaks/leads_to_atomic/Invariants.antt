use Rattle.std.proofs.Common.{◌≡◌, drop}
use Rattle.lay_space.specs.Breaks.{leads_to_atomic}
use Rattle.lay_space.proofs.breaks.leads_to_atomic.Given as goal

abbrev pub invariant-loop-k : goal.invariant-loop-k
invariant-loop-k l = leads_to_atomic (drop l.k l.tokens) ≡ leads_to_atomic l.tokens
