use Rattle.lay_margins.specs.RunsTo.{RunsTo}
use Rattle.lay_margins.proofs.adjoining.runs.Given as goal

abbrev pub invariant-loop-k : goal.invariant-loop-k
invariant-loop-k l = RunsTo l.edges l.runs.items l.first l.k
