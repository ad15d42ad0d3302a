use Rattle.std.proofs.Common.{◌<◌, ◌≤◌, ◌+◌}
use Rattle.lay_flow.proofs.hypothetical_edge.outermost_from.Given as goal
use Rattle.lay_flow.specs.Blocks.MarginPlace.{IsAround}

abbrev pub invariant-loop-outermost : goal.invariant-loop-outermost
invariant-loop-outermost l = (0 < l.outermost) × (l.outermost ≤ l.before.at.k) × IsAround l.before.at.boxes.list.now l.outermost (l.before.at.k + 1) × (l.outermost < l.before.at.k → l.before.first ≤ l.outermost)

abbrev pub decreases-loop-outermost : goal.decreases-loop-outermost
decreases-loop-outermost l = l.outermost
