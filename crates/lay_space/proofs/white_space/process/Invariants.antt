use Rattle.std.proofs.Common.{◌≡◌, ◌++◌, drop, false}
use Rattle.lay_space.specs.WhiteSpace.{processed}
use Rattle.lay_space.proofs.white_space.process.Given as goal

abbrev pub invariant-loop-k : goal.invariant-loop-k
invariant-loop-k l = l.out.items ++ processed l.after_space (drop l.k l.items) ≡ processed false l.items
