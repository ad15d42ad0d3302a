-- What the pieces of one formatting context are made of, while they are made.
use Rattle.std.specs.Prelude.{◌≡◌, List, length}
use Rattle.lay_inlines.specs.declared.line_piece.LinePiece.{LinePiece}
use Rattle.lay_flow_boxes.specs.PlaceInputs.{PlaceInput}
use Rattle.lay_placements.specs.declared.standing.Standing.{Standing}
use Rattle.lay_placements.specs.Standings.{AreNearStandings}
use Rattle.lay_placement.specs.BoxStandings.{standings_to}
use Rattle.lay_placement.specs.ContextPlaces.{ContextPlaces}
use Rattle.lay_placement.specs.Counts.{HaveCounts}
use Rattle.lay_placement.specs.OnLines.{AreOnLines}

-- this is known of the boxes in these places
pub record IsPainting (i : PlaceInput) (p : ContextPlaces) (on_lines : List (List LinePiece)) (standings : List Standing) : Type 0 where
  pub counts : HaveCounts i.boxes p
  pub are_on_lines : AreOnLines i p on_lines
  pub are_standings : standings ≡ standings_to i p (length i.boxes)
  pub near : AreNearStandings standings
