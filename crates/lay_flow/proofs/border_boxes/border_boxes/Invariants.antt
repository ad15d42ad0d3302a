use Rattle.std.proofs.Common.{◌≡◌, ◌<◌, ℕ, length}
use Rattle.lay_flow.specs.Blocks.Boxes.{box_at}
use Rattle.lay_flow.specs.Blocks.FlowPlaces.{IsNearPlace, border_box, own_place, box_place_at, corner_at}
use Rattle.lay_flow.specs.Blocks.Lengths.{length_at}
use Rattle.lay_flow.proofs.border_boxes.border_boxes.Given as goal

abbrev pub invariant-loop-k : goal.invariant-loop-k
invariant-loop-k l = record {
  count : length l.places.items ≡ l.k;
  each : (k : ℕ) → k < l.k → box_place_at l.places.items k
      ≡ border_box (box_at l.boxes.list.now k).kind (record { 0 = length_at l.columns.tops.items k }) (record { 0 = length_at l.columns.heights.items k }) (own_place (box_at l.boxes.list.now k).kind (corner_at l.columns.places.items k) (corner_at l.columns.corners.items k));
  near : (k : ℕ) → k < l.k → IsNearPlace (box_place_at l.places.items k);
}
