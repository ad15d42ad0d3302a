use Rattle.std.proofs.Common.{◌≡◌}
use Rattle.lay_table_sizes.specs.TableBounds.{first_bounds}
use Rattle.lay_table_sizes.proofs.bounds.first_bounds.Given as goal

abbrev pub invariant-loop-k : goal.invariant-loop-k
invariant-loop-k l = l.first.items ≡ first_bounds l.bounds l.k
