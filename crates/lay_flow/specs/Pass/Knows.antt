-- What is known at each place of a pass over the boxes of a context.
use Rattle.std.specs.Prelude.{ℕ, ◌≡◌, ◌+◌, ◌<◌, ◌≤◌, pos, true, false, List, length, Some, None}
use Rattle.lay_flow.specs.declared.blocks.flow_box.FlowBox.{FlowBox}
use Rattle.lay_flow.specs.Blocks.Boxes.{parent_at}
use Rattle.lay_units.specs.declared.length.Unit.{Unit as Length}
use Rattle.lay_floats.specs.declared.requests.Side.{Side}
use Rattle.lay_flow.specs.Blocks.Lengths.{length_at}
use Rattle.lay_flow.specs.Blocks.Children.{flag_at}
use Rattle.lay_flow.specs.Blocks.MarginRuns.{block_at}
use Rattle.lay_flow.specs.Blocks.BlockFloats.{Spot, spot_at, shape_at}
use Rattle.lay_flow.specs.Blocks.BlockPositions.{IsBlockLayout, is_placed}
use Rattle.lay_flow.specs.Blocks.Weights.{weight}
use Rattle.lay_flow.specs.Blocks.BlockLayout.{BlockLayout, Extents}
use Rattle.lay_flow.specs.Blocks.Clearance.{HasClearance}
use Rattle.lay_flow.specs.Blocks.MarginPlace.{MarginPlace}
use Rattle.lay_flow.specs.Pass.State.{PassState, Clearances, IsAt, IsBefore, clearances_of}
use Rattle.lay_flow.specs.Pass.Bounds.{StateFits, IsStartNear, IsEdgeNear}
use Rattle.lay_flow.specs.Pass.Placed.{Placing, PlacesTo}

-- extents as they may be at last: the depths of the first n boxes are known
abbrev pub MayBe : List FlowBox → ℕ → List Length → Extents → Type 0
MayBe boxes n known extents = (j : ℕ) → j < n → is_placed (block_at boxes j).inside ≡ true → length_at extents.depths j ≡ length_at known j

-- boxes that hold blocks have no depth
abbrev pub HaveNoExtent : List FlowBox → List Length → Type 0
HaveNoExtent boxes extents = (j : ℕ) → is_placed (block_at boxes j).inside ≡ false → length_at extents j ≡ pos 0

-- the depths but those from the place k on of boxes that don't hold blocks are the same
abbrev pub AreExtentsKept : List FlowBox → ℕ → List Length → List Length → Type 0
AreExtentsKept boxes k old new = (j : ℕ) → (is_placed (block_at boxes j).inside ≡ true → j < k) → length_at new j ≡ length_at old j

-- a layout that the blocks may have at last: the boxes before m have the clearance that was decided
pub record IsCandidate (boxes : List FlowBox) (y : BlockLayout) (decided : Clearances) (m : ℕ) : Type 0 where
  pub is_layout : IsBlockLayout boxes y
  pub clears : (j : ℕ) → j < m → flag_at y.runs.clears j ≡ flag_at decided.flags j
  pub edge : (j : ℕ) → j < m → flag_at decided.flags j ≡ true → length_at y.clear_edges j ≡ length_at decided.edges j

-- spots of which those that are known are the same
abbrev pub ArePlacesKept : List Spot → List Spot → Type 0
ArePlacesKept old new = (j : ℕ) → j < length old → spot_at new j ≡ spot_at old j

-- the clearance of the boxes before m was decided as it is in every flow that the context may have at last
abbrev pub AreDecided : List FlowBox → Clearances → Placing → ℕ → Type 0
AreDecided boxes decided placing m =
    (k : ℕ) → 0 < k → k < m → (shape_at boxes k).float ≡ None
    → (y : BlockLayout) (places : List Spot) → MayBe boxes (length placing.places) placing.extents y.extents
    → IsCandidate boxes y decided m → ArePlacesKept placing.places places
    → HasClearance boxes y places k

-- the columns of clearance, as far as the boxes before m are decided
pub record AreClears (boxes : List FlowBox) (decided : Clearances) (m : ℕ) : Type 0 where
  pub clears_length : length decided.flags ≡ length boxes
  pub edges_length : length decided.edges ≡ length boxes
  pub later : (j : ℕ) → m ≤ j → flag_at decided.flags j ≡ false
  pub root : flag_at decided.flags 0 ≡ false
  pub float : (k : ℕ) (side : Side) → (shape_at boxes k).float ≡ Some side → flag_at decided.flags k ≡ false
  pub no_edge : (k : ℕ) → flag_at decided.flags k ≡ false → length_at decided.edges k ≡ pos 0

-- the pass is at a place, and what it keeps is as in every layout that may be that of the context
pub record Knows (boxes : List FlowBox) (now : PassState) (placing : Placing) (at : MarginPlace) : Type 0 where
  pub fits : StateFits boxes now at.inner at.next
  pub near : IsStartNear (weight boxes at.next) now.start
  pub is_at : (y : BlockLayout) → MayBe boxes (length placing.places) placing.extents y.extents
      → IsCandidate boxes y (clearances_of now) at.next → IsAt boxes y now at
  pub no_extents : HaveNoExtent boxes placing.extents
  pub placed : PlacesTo boxes now.marks placing (length placing.places)
  pub early : length placing.places ≤ now.first
  pub are_clears : AreClears boxes (clearances_of now) at.next
  pub decided : AreDecided boxes (clearances_of now) placing at.next

-- the pass is before the top margin of the box at k, and it is decided whether that has clearance
pub record IsReady (boxes : List FlowBox) (now : PassState) (placing : Placing) (k : ℕ) : Type 0 where
  pub fits : StateFits boxes now (parent_at boxes k) k
  pub near : IsEdgeNear (weight boxes k) now.start
  pub is_before : (y : BlockLayout) → MayBe boxes (length placing.places) placing.extents y.extents
      → IsCandidate boxes y (clearances_of now) (k + 1) → IsBefore boxes y now k
  pub no_extents : HaveNoExtent boxes placing.extents
  pub placed : PlacesTo boxes now.marks placing (length placing.places)
  pub early : length placing.places ≤ now.first
  pub are_clears : AreClears boxes (clearances_of now) (k + 1)
  pub decided : AreDecided boxes (clearances_of now) placing (k + 1)
