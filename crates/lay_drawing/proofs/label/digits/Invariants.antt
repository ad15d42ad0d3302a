use Rattle.std.proofs.Common.{◌≡◌, ◌+◌, length}
use Rattle.std.specs.Fmt.{decimal}
use Rattle.lay_drawing.proofs.label.digits.Given as goal

abbrev pub decreases-loop-left : goal.decreases-loop-left
decreases-loop-left l = l.left

abbrev pub invariant-loop-left : goal.invariant-loop-left
invariant-loop-left l = l.count + length (decimal l.left) ≡ length (decimal l.fn.node) + 1
