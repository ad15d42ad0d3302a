-- Where boxes come to rest, while that is put together.
use Rattle.std.specs.Prelude.{ℕ, ◌≡◌, ◌<◌, true, List, length, slice_index_or, Option}
use Rattle.lay_units.specs.declared.length.Unit.{Unit as Length}
use Rattle.lay_box_tree.specs.Roles.{role_at}
use Rattle.lay_flow.specs.Blocks.FlowPlaces.{FlowPlacesValue}
use Rattle.lay_flow_boxes.specs.ContextBlocks.{is_anchor}
use Rattle.lay_flow_boxes.specs.PlaceInputs.{PlaceInput}
use Rattle.lay_placements.specs.declared.corner.Corner.{Corner}
use Rattle.lay_placements.specs.Corners.{AreNearCorners}
use Rattle.lay_placement.specs.AnchorLines.{top_at}
use Rattle.lay_placement.specs.BoxStandings.{corner_in_flow, corner_of_box}
use Rattle.lay_placement.specs.ContextPlaces.{ContextPlaces}
use Rattle.lay_placement.specs.Counts.{HaveCounts}
use Rattle.lay_placement.specs.StaticPositions.{anchor_line}

-- where the box at k stands, of which this is kept: where the flow puts it, if nothing is
abbrev pub kept_corner : FlowPlacesValue → List Corner → ℕ → Corner
kept_corner places corners k = slice_index_or corners k (corner_in_flow places k)

-- the corners where the flow or lines put boxes, and the tops of the lines that have the anchors
pub record IsResting (i : PlaceInput) (p : ContextPlaces) (corners : List Corner) (tops : List (Option Length)) : Type 0 where
  pub counts : HaveCounts i.boxes p
  pub each_corner : (k : ℕ) → k < length i.boxes → kept_corner p.places corners k ≡ corner_of_box i p k
  pub near : AreNearCorners corners
  pub top_count : (k : ℕ) → k < length i.boxes → is_anchor (role_at i.boxes k) ≡ true → k < length tops
  pub each_top : (k : ℕ) → k < length i.boxes → is_anchor (role_at i.boxes k) ≡ true → top_at tops k ≡ anchor_line i p k
