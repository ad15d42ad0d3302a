use Rattle.std.proofs.Common.{◌≡◌, drop}
use Rattle.lay_measure.specs.LineWidths.{begun, pen_after}
use Rattle.lay_measure.proofs.pen.over_all.Given as goal

abbrev pub invariant-loop-k : goal.invariant-loop-k
invariant-loop-k l =
    pen_after l.how l.tab.0 l.pen (drop l.k l.parts) ≡ pen_after l.how l.tab.0 (begun l.fn.start) l.parts
