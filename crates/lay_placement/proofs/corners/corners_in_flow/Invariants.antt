use Rattle.std.proofs.Common.{◌≡◌, ◌<◌, ℕ, length}
use Rattle.lay_placement.specs.BoxStandings.{corner_in_flow}
use Rattle.lay_placements.specs.Corners.{AreNearCorners, corner_at}
use Rattle.lay_placement.proofs.corners.corners_in_flow.Given as goal

abbrev pub invariant-loop-k : goal.invariant-loop-k
invariant-loop-k l = record {
  count : length l.corners.items ≡ l.k;
  each : (j : ℕ) → j < l.k → corner_at l.corners.items j ≡ corner_in_flow l.places.places j;
  near : AreNearCorners l.corners.items;
}
