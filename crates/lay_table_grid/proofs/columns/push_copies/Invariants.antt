use Rattle.std.proofs.Common.{◌≡◌, ◌++◌, replicate}
use Rattle.lay_table_grid.proofs.columns.push_copies.Given as goal

abbrev pub invariant-loop : goal.invariant-loop
invariant-loop l = l.columns.items ≡ l.initial.columns.items ++ replicate l.counter l.k
