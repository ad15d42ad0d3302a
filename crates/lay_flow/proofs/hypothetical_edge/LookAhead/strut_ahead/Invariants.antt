use Rattle.std.proofs.Common.{◌≡◌, false}
use Rattle.lay_flow.specs.Pass.LookAhead.{IsReading, reading}
use Rattle.lay_flow.proofs.hypothetical_edge.LookAhead.strut_ahead.Given as goal

abbrev pub invariant-loop-m : goal.invariant-loop-m
invariant-loop-m l = (l.ahead.ended ≡ false) × IsReading l.self.boxes.list.now l.self.from (reading l.ahead.used.strut l.ahead.innermost l.m)
