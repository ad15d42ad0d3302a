use Rattle.std.proofs.Common.{◌≡◌, false, take}
use Rattle.lay_placement.specs.AtomicCorners.{has_atomic}
use Rattle.lay_placement.proofs.corners.has_atomic.Given as goal

abbrev pub invariant-loop-i : goal.invariant-loop-i
invariant-loop-i l = has_atomic (take l.i l.pieces) ≡ false
