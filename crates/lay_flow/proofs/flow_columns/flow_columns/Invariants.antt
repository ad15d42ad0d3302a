use Rattle.std.proofs.Common.{◌≤◌, ◌-◌}
use Rattle.lay_flow.specs.Pass.Known.{IsKnown}
use Rattle.lay_flow.proofs.flow_columns.flow_columns.Given as goal

abbrev pub invariant-loop-k : goal.invariant-loop-k
invariant-loop-k l = (1 ≤ l.k) × IsKnown l.boxes.list.now l.flow (l.k - 1) l.k
