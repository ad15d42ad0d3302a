use Rattle.std.proofs.Common.{ℤ, ◌≤ℤ◌, ◌+◌, ◌-◌, ◌^◌}
use borrow.Author.Differences.{up, down}
use Rattle.lay_units.specs.Units.{IsPosition}
use Rattle.lay_lines.specs.Filling.{Begins}
use Rattle.lay_lines.proofs.top.line_top.Given as goal

abbrev pub invariant-loop-blank : goal.invariant-loop-blank
invariant-loop-blank l = record {
  fits : IsPosition l.top.0;
  low : l.fn.start.top.0 ≤ℤ l.top.0;
  least : (z : ℤ) → l.fn.start.top.0 ≤ℤ z → Begins l.start.frame z l.start.stretches.now l.floats → l.top.0 ≤ℤ z;
}

abbrev pub decreases-loop-blank : goal.decreases-loop-blank
decreases-loop-blank l = (2 ^ 62 + down l.top.0) - up l.top.0
