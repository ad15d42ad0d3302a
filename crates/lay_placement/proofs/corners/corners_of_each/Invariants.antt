use Rattle.std.proofs.Common.{◌≡◌, ◌<◌, ℕ, length}
use Rattle.lay_placements.specs.Corners.{AreNearCorners, corner_at}
use Rattle.lay_placement.specs.AtomicCorners.{corner_among}
use Rattle.lay_placement.specs.BoxStandings.{corner_in_flow}
use Rattle.lay_placement.specs.OnLines.{on_lines_to}
use Rattle.lay_placement.proofs.corners.corners_of_each.Given as goal

abbrev pub invariant-loop-k : goal.invariant-loop-k
invariant-loop-k l = record {
  count : length l.corners.items ≡ length l.input.boxes;
  each : (j : ℕ) → j < length l.input.boxes → corner_at l.corners.items j ≡ corner_among (on_lines_to l.input l.places l.k) j (corner_in_flow l.places.places j);
  near : AreNearCorners l.corners.items;
}
