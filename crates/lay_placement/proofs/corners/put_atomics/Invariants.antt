use Rattle.std.proofs.Common.{◌≡◌, ◌<◌, ℕ, length, take}
use Rattle.lay_placement.specs.AtomicCorners.{corner_among}
use Rattle.lay_placements.specs.Corners.{AreNearCorners, corner_at}
use Rattle.lay_placement.proofs.corners.put_atomics.Given as goal

abbrev pub invariant-loop-i : goal.invariant-loop-i
invariant-loop-i l = record {
  count : length l.corners.items ≡ length l.fn.corners.items;
  each : (k : ℕ) → k < length l.fn.corners.items → corner_at l.corners.items k ≡ corner_among (take l.i l.pieces) k (corner_at l.fn.corners.items k);
  near : AreNearCorners l.corners.items;
}
