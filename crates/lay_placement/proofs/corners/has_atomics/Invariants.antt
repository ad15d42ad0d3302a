use Rattle.std.proofs.Common.{◌≡◌, ◌<◌, ℕ, false}
use Rattle.lay_placement.specs.AtomicCorners.{has_atomic}
use Rattle.lay_placement.specs.OnLines.{on_lines_at}
use Rattle.lay_placement.proofs.corners.has_atomics.Given as goal

abbrev pub invariant-loop-j : goal.invariant-loop-j
invariant-loop-j l = (i : ℕ) → i < l.j → has_atomic (on_lines_at l.on_lines i) ≡ false
