use Rattle.std.proofs.Common.{◌≡◌, ◌≤◌}
use Rattle.lay_drawing.specs.Input.{HasReadFirst}
use Rattle.lay_drawing.proofs.input.read_report.Given as goal

abbrev pub invariant-loop : goal.invariant-loop
invariant-loop g l = record {
  wanted : l.reading.wanted ≡ l.fn.wanted;
  first : HasReadFirst (g.S.Source.left l.fn.source) (g.S.Source.left l.source) l.reading;
  never_falls : g.S.Source.faults l.fn.source ≤ g.S.Source.faults l.source;
}
