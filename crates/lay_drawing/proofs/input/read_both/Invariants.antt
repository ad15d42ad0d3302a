use Rattle.std.proofs.Common.{◌≡◌, ◌≤◌, Some}
use Rattle.lay_drawing.specs.Input.{HasReadFirst}
use Rattle.lay_drawing.proofs.input.read_both.Given as goal

abbrev pub invariant-loop : goal.invariant-loop
invariant-loop g l = record {
  before_wanted : l.both.before.wanted ≡ Some l.fn.versions.0;
  after_wanted : l.both.after.wanted ≡ Some l.fn.versions.1;
  before : HasReadFirst (g.S.Source.left l.fn.source) (g.S.Source.left l.source) l.both.before;
  after : HasReadFirst (g.S.Source.left l.fn.source) (g.S.Source.left l.source) l.both.after;
  never_falls : g.S.Source.faults l.fn.source ≤ g.S.Source.faults l.source;
}
