use Rattle.lay_lines.specs.Meeting.{state_of, MeetsTo}
use Rattle.lay_lines.proofs.meeting.meet_all.Given as goal

abbrev pub invariant-loop-float : goal.invariant-loop-float
invariant-loop-float l =
    MeetsTo l.line.frame l.line.top.0 l.line.stretches.now l.reach.count l.list l.float-index (state_of l.fn.floats l.fn.met) (state_of l.floats l.met)
