use Rattle.std.proofs.Common.{◌≡◌}
use Rattle.lay_shape.specs.Building.{entries_to}
use Rattle.lay_shape.proofs.cell_shape.shape.Given as goal

abbrev pub invariant-loop-k : goal.invariant-loop-k
invariant-loop-k l = l.shape ≡ entries_to l.contexts l.k
