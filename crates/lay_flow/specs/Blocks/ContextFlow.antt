-- The flow of a block formatting context: its blocks with their runs of margins, positions, heights and clearance, its floats,
-- its lines and its solid boxes (CSS 2.2, 8.3.1, 9.4.1, 9.4.2, 9.5, 10.6.3 and 10.6.7).
use Rattle.std.specs.Prelude.{ℕ, ◌≡◌, ◌<◌, ◌+ℤ◌, ◌-ℤ◌, true, false, pos, List, length, Some, None}
use Rattle.lay_flow.specs.declared.blocks.flow_box.FlowBox.{FlowBox}
use Rattle.lay_units.specs.declared.length.Unit.{Unit as Length}
use Rattle.lay_floats.specs.declared.requests.Side.{Side}
use Rattle.lay_floats.specs.declared.requests.Clear.TheVariants.{Both as clear_both}
use Rattle.lay_floats.specs.ClearEdge.{IsClearEdge}
use Rattle.lay_floats.specs.FloatPlace.{IsFloatPlace}
use Rattle.lay_floats.specs.SolidPlace.{IsSolidPlace}
use Rattle.lay_flow.specs.Blocks.Lengths.{length_at}
use Rattle.lay_flow.specs.Blocks.Children.{flag_at}
use Rattle.lay_flow.specs.Blocks.MarginRuns.{block_at}
use Rattle.lay_flow.specs.Blocks.BlockPositions.{IsBlockLayout, is_lines, is_placed, is_solid}
use Rattle.lay_flow.specs.Blocks.BlockLayout.{BlockLayout}
use Rattle.lay_flow.specs.Blocks.BlockFloats.{AreLinesAt, Spot, shape_at, place_at, no_place, lines_at}
use Rattle.lay_flow.specs.Blocks.BlockFloats.{no_lines, floats_before, ceiling, float_request, solid_request}
use Rattle.lay_flow.specs.Blocks.Clearance.{HasClearance}

-- The columns of a flow: the layout of the blocks, and the spots of floats, solid boxes and lines.
pub record Flow : Type 0 where
  pub layout : BlockLayout
  pub places : List Spot

-- the flow of the boxes where these have clearance and stand at these clear edges
pub record IsFlowByClearances (boxes : List FlowBox) (f : Flow) : Type 0 where
  pub layout : IsBlockLayout boxes f.layout
  pub extents_length : length f.layout.extents.depths ≡ length boxes
  pub clear_edges_length : length f.layout.clear_edges ≡ length boxes
  pub places_length : length f.places ≡ length boxes
  -- the places of floats and of solid boxes
  pub float : (k : ℕ) (side : Side) → 0 < k → k < length boxes → (shape_at boxes k).float ≡ Some side
      → IsFloatPlace (floats_before boxes f.places k) (float_request (shape_at boxes k) side (ceiling boxes f.layout.places.marks k))
      (place_at f.places k).x.0 (place_at f.places k).y.0
  pub solid : (k : ℕ) → 0 < k → k < length boxes → is_solid (block_at boxes k).inside ≡ true
      → IsSolidPlace (floats_before boxes f.places k) (solid_request (shape_at boxes k) (length_at f.layout.places.marks k))
      (place_at f.places k).x.0 (place_at f.places k).y.0
  pub no_place_root : place_at f.places 0 ≡ no_place
  pub no_place_else : (k : ℕ) → 0 < k → k < length boxes → (shape_at boxes k).float ≡ None
      → is_solid (block_at boxes k).inside ≡ false → place_at f.places k ≡ no_place
  -- the lines of the boxes that hold lines
  pub lines : (k : ℕ) → k < length boxes → is_lines (block_at boxes k).inside ≡ true → AreLinesAt boxes f.layout.places.marks f.places k
  pub no_lines_else : (k : ℕ) → k < length boxes → is_lines (block_at boxes k).inside ≡ false → lines_at f.places k ≡ no_lines
  -- what follows a solid box starts at its bottom border edge
  pub solid_extent : (k : ℕ) → 0 < k → k < length boxes → is_solid (block_at boxes k).inside ≡ true
      → length_at f.layout.extents.depths k ≡ (place_at f.places k).y.0 -ℤ length_at f.layout.places.marks k +ℤ (shape_at boxes k).height.0
  -- a box reaches at least to the end of its lines
  pub lines_extent : (k : ℕ) → k < length boxes → is_lines (block_at boxes k).inside ≡ true
      → length_at f.layout.extents.depths k
      ≡ (lines_at f.places k).end.0 -ℤ (length_at f.layout.places.marks k +ℤ (block_at boxes k).edge_top.0)
  pub no_extent : (k : ℕ) → k < length boxes → is_placed (block_at boxes k).inside ≡ false → length_at f.layout.extents.depths k ≡ pos 0
  -- the context's own box reaches round all floats
  pub bottom : IsClearEdge (floats_before boxes f.places (length boxes)) clear_both f.layout.extents.floats

pub record IsContextFlow (boxes : List FlowBox) (f : Flow) : Type 0 where
  pub by_clearances : IsFlowByClearances boxes f
  -- the context's own box has no clearance, and a float has none that parts margins
  pub root_clear : flag_at f.layout.runs.clears 0 ≡ false
  pub float_clear : (k : ℕ) (side : Side) → k < length boxes → (shape_at boxes k).float ≡ Some side → flag_at f.layout.runs.clears k ≡ false
  pub clearance : (k : ℕ) → 0 < k → k < length boxes → (shape_at boxes k).float ≡ None → HasClearance boxes f.layout f.places k
  pub no_edge : (k : ℕ) → k < length boxes → flag_at f.layout.runs.clears k ≡ false → length_at f.layout.clear_edges k ≡ pos 0

-- these are the top border edges and the heights of the border boxes, and the spots
pub record ArePlacesInContext (boxes : List FlowBox) (tops heights : List Length) (places : List Spot) : Type 0 where
  pub flow : Flow
  pub is_flow : IsContextFlow boxes flow
  pub tops_are : tops ≡ flow.layout.places.marks
  pub heights_are : heights ≡ flow.layout.places.heights
  pub places_are : places ≡ flow.places
