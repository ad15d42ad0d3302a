-- The columns that a pass leaves, an entry for each box, and their bounds: marks, heights, places, lines, and the corners that
-- lines give to the floats that they met.
use Rattle.std.specs.Prelude.{ℕ, ◌≡◌, ◌<◌, pos, false, List, length, map}
use Rattle.lay_units.specs.Units.{IsBoxSize, IsNear}
use Rattle.lay_floats.specs.declared.requests.Place.{Place}
use Rattle.lay_floats.specs.Within.{IsWithin}
use Rattle.lay_flow.specs.declared.flow_columns.FlowColumns.{FlowColumns}
use Rattle.lay_flow.specs.declared.blocks.flow_box.FlowBox.{FlowBox}
use Rattle.lay_flow.specs.declared.blocks.flow_places.BoxPlace.{BoxPlace}
use Rattle.lay_flow.specs.Blocks.Boxes.{box_at}
use Rattle.lay_flow.specs.Blocks.Lengths.{length_at}
use Rattle.lay_flow.specs.Blocks.MarginRuns.{block_at}
use Rattle.lay_flow.specs.Blocks.BlockPositions.{is_solid}
use Rattle.lay_flow.specs.Blocks.BlockFloats.{Spot}
use Rattle.lay_flow.specs.Blocks.ContextFlow.{ArePlacesInContext}
use Rattle.lay_flow.specs.Blocks.FlowPlaces.{AreNearRows, border_box, box_place_at, own_place, corner_at, AreCorners}

-- a place at most 2^60 - 2^50 units away
pub record IsFarPlace (p : Place) : Type 0 where
  pub x : IsWithin (pos 1151795604700004352) p.x.0
  pub y : IsWithin (pos 1151795604700004352) p.y.0

-- the columns that a pass leaves are those of the context's flow, with these spots
pub record AreColumnsOf (boxes : List FlowBox) (out : FlowColumns) : Type 0 where
  pub places : List Spot
  pub are : ArePlacesInContext boxes out.tops.items out.heights.items places
  pub places_are : map (λ p. p.place) places ≡ out.places.items
  pub rows_are : map (λ p. p.lines.rows) places ≡ out.rows.items
  pub corners_are : AreCorners (length boxes) (map (λ p. p.lines.places) places) out.corners.items

-- and are within these bounds
pub record AreNearColumns (boxes : List FlowBox) (out : FlowColumns) : Type 0 where
  pub tops_length : length out.tops.items ≡ length boxes
  pub heights_length : length out.heights.items ≡ length boxes
  pub places_length : length out.places.items ≡ length boxes
  pub corners_length : length out.corners.items ≡ length boxes
  pub top : (k : ℕ) → k < length boxes → IsNear (length_at out.tops.items k)
  pub height : (k : ℕ) → k < length boxes → is_solid (block_at boxes k).inside ≡ false → IsBoxSize (length_at out.heights.items k)
  pub place : (k : ℕ) → k < length boxes → IsFarPlace (corner_at out.places.items k)
  pub corner : (k : ℕ) → k < length boxes → IsFarPlace (corner_at out.corners.items k)
  pub rows : AreNearRows out.rows.items

-- the border boxes by these columns
pub record AreBorderBoxes (boxes : List FlowBox) (columns : FlowColumns) (out : List BoxPlace) : Type 0 where
  pub count : length out ≡ length boxes
  pub each : (k : ℕ) → k < length boxes → box_place_at out k
      ≡ border_box (box_at boxes k).kind (record { 0 = length_at columns.tops.items k }) (record { 0 = length_at columns.heights.items k })
      (own_place (box_at boxes k).kind (corner_at columns.places.items k) (corner_at columns.corners.items k))
