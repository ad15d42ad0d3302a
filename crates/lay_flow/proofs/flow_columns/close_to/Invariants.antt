use Rattle.std.proofs.Common.{◌≤◌, ◌<◌}
use Rattle.lay_flow.specs.Pass.Known.{IsKnown}
use Rattle.lay_flow.proofs.flow_columns.close_to.Given as goal

abbrev pub invariant-loop-innermost : goal.invariant-loop-innermost
invariant-loop-innermost l = (l.to ≤ l.innermost) × (l.innermost < l.m) × IsKnown l.boxes.list.now l.flow l.innermost l.m

abbrev pub decreases-loop-innermost : goal.decreases-loop-innermost
decreases-loop-innermost l = l.innermost
