use Rattle.std.proofs.Common.{length}
use Rattle.lay_audit.proofs.ComparedLines.{Compares}
use Rattle.lay_audit.proofs.comparing.compare.Given as goal

abbrev pub invariant-loop-left : goal.invariant-loop-left
invariant-loop-left l = Compares l.wanted l.text l.left l.rest l.lines

abbrev pub decreases-loop-left : goal.decreases-loop-left
decreases-loop-left l = length l.left
