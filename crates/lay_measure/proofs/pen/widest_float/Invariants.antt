use Rattle.std.proofs.Common.{◌≡◌, ◌-◌, drop}
use Rattle.lay_measure.specs.LineWidths.{widest_float}
use Rattle.lay_measure.proofs.pen.widest_float.Given as goal

-- the last parts are done
abbrev pub invariant-loop-done : goal.invariant-loop-done
invariant-loop-done l = l.widest.0 ≡ widest_float (drop (l.count - l.done) l.parts)
