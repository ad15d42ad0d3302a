use Rattle.lay_table_grid.specs.Pass.GroupCounts.{GroupCountsTo}
use Rattle.lay_table_grid.proofs.group_numbers.group_counts.Given as goal

abbrev pub invariant-loop-k : goal.invariant-loop-k
invariant-loop-k l = GroupCountsTo l.boxes l.k l.counts.items l.next
