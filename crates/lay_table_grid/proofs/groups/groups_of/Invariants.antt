use Rattle.std.proofs.Common.{◌≡◌, ◌++◌, drop, map}
use Rattle.lay_table_grid.proofs.groups.groups_of.Given as goal

abbrev pub invariant-loop-row : goal.invariant-loop-row
invariant-loop-row l = l.groups.items ++ map (λ row. row.group) (drop l.row-index l.rows) ≡ map (λ row. row.group) l.rows
