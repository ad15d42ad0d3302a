use Rattle.std.proofs.Common.{◌≡◌}
use Rattle.lay_lines.specs.Meeting.{state_of}
use Rattle.lay_lines.specs.Filling.{Fills, FitsAll}
use Rattle.lay_lines.specs.Reaching.{IsReach}
use Rattle.lay_lines.proofs.Steps.{Unforced}
use Rattle.lay_lines.proofs.taking.take.Given as goal

abbrev pub invariant-loop-k : goal.invariant-loop-k
invariant-loop-k l = record {
  count_is : l.reach.count ≡ l.k;
  reach_is : IsReach l.line.frame l.line.top.0 l.line.stretches.now l.floats l.reach;
  fills : Fills l.line.frame l.line.top.0 l.line.stretches.now l.k (state_of l.fn.floats l.fn.met) (state_of l.floats l.met);
  fits : FitsAll l.line.frame l.line.top.0 l.line.stretches.now (state_of l.fn.floats l.fn.met) l.k;
  unforced : Unforced l.line.stretches.now l.k;
}
