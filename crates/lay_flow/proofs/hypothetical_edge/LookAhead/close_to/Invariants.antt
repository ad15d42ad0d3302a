use Rattle.lay_flow.specs.Pass.LookAhead.{IsReading, reading}
use Rattle.lay_flow.proofs.hypothetical_edge.LookAhead.close_to.Given as goal

abbrev pub invariant-loop-innermost : goal.invariant-loop-innermost
invariant-loop-innermost l = IsReading l.self.boxes.list.now l.self.from (reading l.used.strut l.innermost l.m)

abbrev pub decreases-loop-innermost : goal.decreases-loop-innermost
decreases-loop-innermost l = l.innermost
