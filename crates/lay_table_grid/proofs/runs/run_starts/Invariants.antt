use Rattle.lay_table_grid.specs.Pass.Runs.{AreRunStartsTo}
use Rattle.lay_table_grid.proofs.runs.run_starts.Given as goal

abbrev pub invariant-loop-k : goal.invariant-loop-k
invariant-loop-k l = AreRunStartsTo l.entries l.k l.starts.items
