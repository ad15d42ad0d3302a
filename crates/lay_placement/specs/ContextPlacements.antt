-- The placement of one formatting context, beside the used sizes of its boxes and what is known of the formatting contexts inside
-- it: its own box as the one around it takes it, its pieces, and where its boxes stand.
use Rattle.std.specs.Prelude.{◌≡◌, length}
use Rattle.lay_sizes.specs.OwnBoxes.{own_box}
use Rattle.lay_sizes.specs.SizeColumns.{sizes_at}
use Rattle.lay_flow_boxes.specs.PlaceInputs.{PlaceInput}
use Rattle.lay_placements.specs.Placements.{Placement}
use Rattle.lay_placement.specs.Baselines.{own_baseline}
use Rattle.lay_placement.specs.BoxStandings.{standings_to}
use Rattle.lay_placement.specs.ContextPieces.{pieces_to}
use Rattle.lay_placement.specs.ContextPlaces.{ContextPlaces, HasPlaces, own_height}

abbrev pub placement_of : PlaceInput → ContextPlaces → Placement
placement_of i p = record {
  own = own_box (sizes_at i.sizes 0) (own_height p) (own_baseline i p.places);
  pieces = pieces_to i p (length i.boxes);
  standings = standings_to i p (length i.boxes);
}

-- this is the answer
pub record IsPlacement (i : PlaceInput) (answer : Placement) : Type 0 where
  pub places : ContextPlaces
  pub has_places : HasPlaces i places
  pub answer_is : answer ≡ placement_of i places
