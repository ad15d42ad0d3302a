use Rattle.std.proofs.Common.{◌≡◌, [], replicate}
use Rattle.lay_table_grid.proofs.cells.empty_lists.Given as goal

abbrev pub invariant-loop : goal.invariant-loop
invariant-loop l = l.lists.items ≡ replicate l.counter []
