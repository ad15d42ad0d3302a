-- Clearance (CSS 2.2, 9.5.2), between a box with `clear` and the margins before it.
--
-- Such a box is first thought of without clearance. In that hypothetical layout neither it nor a box in it nor a later
-- one has clearance, and the earlier ones have what they have. Its top border edge there is its hypothetical edge. It
-- has clearance where that is above the lowest bottom of the earlier floats of the sides to clear, or where the run of
-- its top margin has the mark of such a float, whose place would change with the margin. Its clear edge is then the
-- lower of that bottom, as these floats stand at last, and of its hypothetical edge.
--
-- For example, a root has a child, in which are a left float 10 px high and then a block with `clear: left` and a top margin
-- of 20 px. Without clearance all of them have their marks at 20 px: the margin is the child's too. The float is in
-- the run of that margin, so the block has clearance. The run before it now ends at 0, where the float stands, with its
-- bottom at 10 px. The clear edge is 20 px, the lower of 10 and 20 px.
--
-- The floats that are tested against are those of the flow. Those of the hypothetical layout decide alike (Laws).
use Rattle.std.specs.Prelude.{ℕ, ◌≡◌, ◌<◌, ◌≤◌, ◌⊎◌, ◌↔◌, true, false, ℤ, ◌<ℤ◌, List, Option, Some, None}
use Rattle.std.specs.Int.{int_max}
use Rattle.lay_flow.specs.declared.blocks.flow_box.FlowBox.{FlowBox}
use Rattle.lay_units.specs.declared.length.Unit.{Unit as Length}
use Rattle.lay_floats.specs.declared.requests.Side.{Side}
use Rattle.lay_floats.specs.ClearEdge.{Clears, IsClearEdge}
use Rattle.lay_floats.specs.FloatPlace.{IsFloatPlace}
use Rattle.lay_flow.specs.Blocks.BlockPositions.{IsBlockLayout, is_lines}
use Rattle.lay_flow.specs.Blocks.Lengths.{length_at}
use Rattle.lay_flow.specs.Blocks.Children.{flag_at}
use Rattle.lay_flow.specs.Blocks.MarginRuns.{Entry, block_at, has_top, run_at}
use Rattle.lay_flow.specs.Blocks.BlockLayout.{BlockLayout}
use Rattle.lay_flow.specs.Blocks.BlockFloats.{AreLinesAt, Spot, ceiling, float_request, floats_before, place_at, shape_at}

-- the hypothetical layout of the box at k, with the extents and the clear edges of y
pub record IsHypothetical (boxes : List FlowBox) (y : BlockLayout) (k : ℕ) (without : BlockLayout) : Type 0 where
  pub is_layout : IsBlockLayout boxes without
  pub extents_are : without.extents ≡ y.extents
  pub edges_are : without.clear_edges ≡ y.clear_edges
  pub earlier : (j : ℕ) → j < k → flag_at without.runs.clears j ≡ flag_at y.runs.clears j
  pub later : (j : ℕ) → k ≤ j → flag_at without.runs.clears j ≡ false

-- an earlier float of a side to clear has its mark in the run
abbrev pub HasClearedFloat : List FlowBox → ℕ → List Entry → Type 0
HasClearedFloat boxes k run =
    (j : ℕ) × (side : Side) × (j < k) × ((shape_at boxes j).float ≡ Some side) × Clears (shape_at boxes k).clear side
    × (has_top j run ≡ true)

-- the hypothetical edge is above the bottom that is to be cleared
abbrev pub IsAbove : ℤ → Option Length → Type 0
IsAbove hypothetical bottom = (v : Length) × (bottom ≡ Some v) × (hypothetical <ℤ v.0)

-- the box at k needs clearance, beside this lowest bottom of the floats to clear
abbrev pub NeedsClearance : List FlowBox → BlockLayout → ℕ → Option Length → Type 0
NeedsClearance boxes without k bottom =
    HasClearedFloat boxes k (run_at without.runs.before_tops k) ⊎ IsAbove (length_at without.places.marks k) bottom

-- the floats before the box at k stand by these marks, those in lines too. By those of its hypothetical layout, it is where
-- they stand in that.
pub record AreFloatPlaces (boxes : List FlowBox) (marks : List Length) (places : List Spot) (k : ℕ) : Type 0 where
  pub float : (j : ℕ) (side : Side) → 0 < j → j < k → (shape_at boxes j).float ≡ Some side
      → IsFloatPlace (floats_before boxes places j) (float_request (shape_at boxes j) side (ceiling boxes marks j))
      (place_at places j).x.0 (place_at places j).y.0
  pub lines : (j : ℕ) → j < k → is_lines (block_at boxes j).inside ≡ true → AreLinesAt boxes marks places j

abbrev pub lower_of : Option Length → ℤ → ℤ
lower_of None hypothetical = hypothetical
lower_of (Some bottom) hypothetical = int_max bottom.0 hypothetical

-- whether the box at k has clearance, and its clear edge
pub record HasClearance (boxes : List FlowBox) (y : BlockLayout) (places : List Spot) (k : ℕ) : Type 0 where
  pub without : BlockLayout
  pub is_hypothetical : IsHypothetical boxes y k without
  -- the lowest bottom of the floats to clear
  pub bottom : Option Length
  pub is_bottom : IsClearEdge (floats_before boxes places k) (shape_at boxes k).clear bottom
  pub decides : (flag_at y.runs.clears k ≡ true) ↔ NeedsClearance boxes without k bottom
  pub edge : flag_at y.runs.clears k ≡ true → length_at y.clear_edges k ≡ lower_of bottom (length_at without.places.marks k)
