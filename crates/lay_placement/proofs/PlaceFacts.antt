-- What follows for the columns of one formatting context from what they are.
use Rattle.std.proofs.Common.{◌≤◌, ◌<◌, ◌∙◌, arith, length}
use Rattle.lay_units.specs.Units.{IsBoxSize}
use Rattle.lay_flow.specs.Blocks.FlowPlaces.{AreNearPlaces}
use Rattle.lay_flow_boxes.specs.FlowShapes.{most_flow_boxes}
use Rattle.lay_flow_boxes.specs.PlaceInputs.{PlaceInput}
use Rattle.lay_placement.specs.ContextPlaces.{ContextPlaces, HasPlaces, own_height}
use Rattle.lay_placement.specs.Counts.{HaveCounts}

-- places have an entry for each box
pub place_counts : (i : PlaceInput) (p : ContextPlaces) → length i.boxes ≤ most_flow_boxes → HasPlaces i p → HaveCounts i.boxes p
place_counts i p few has = record {
  few = few;
  left_count = has.is_shape.has_lefts.count;
  box_count = has.is_shape.are_flow_boxes.count;
  place_count = has.is_flow.places.count ∙ has.is_shape.are_flow_boxes.count;
  move_count = has.has_moves.count;
}

-- the height of its own border box is within its bounds
pub own_height_fits : (i : PlaceInput) (p : ContextPlaces) → 0 < length i.boxes → HasPlaces i p → AreNearPlaces p.places.boxes → IsBoxSize (own_height p).0
own_height_fits i p some has near =
    (near 0 (omega (arith, some, has.is_flow.places.count, has.is_shape.are_flow_boxes.count))).height
