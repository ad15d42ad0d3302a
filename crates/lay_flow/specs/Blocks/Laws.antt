-- The blocks of a context have a layout, and it has a flow, each one alone.
use Rattle.std.specs.Prelude.{ℕ, ◌≡◌, ◌<◌, ◌↔◌, Bool, true, false, List, length, Option}
use Rattle.lay_flow.specs.Blocks.Adjoining.{RunsAdjoin}
use Rattle.lay_flow.specs.Blocks.MarginRuns.{Runs, HasRuns, block_at, may_collapse_through}
use Rattle.lay_flow.specs.Blocks.Children.{flag_at, is_child}
use Rattle.lay_flow.specs.declared.blocks.flow_box.FlowBox.{FlowBox}
use Rattle.lay_flow.specs.Blocks.Boxes.{parents_of}
use Rattle.lay_units.specs.declared.length.Unit.{Unit as Length}
use Rattle.lay_doc.specs.Tree.{IsTree}
use Rattle.lay_floats.specs.ClearEdge.{IsClearEdge}
use Rattle.lay_flow.specs.Blocks.FlowBoxes.{IsFlowTree}
use Rattle.lay_flow.specs.Blocks.Clearance.{AreFloatPlaces, IsHypothetical, NeedsClearance}
use Rattle.lay_flow.specs.Blocks.BlockFloats.{Spot, floats_before, shape_at}
use Rattle.lay_flow.specs.Blocks.ContextFlow.{Flow, IsContextFlow, IsFlowByClearances}
use Rattle.lay_flow.specs.Blocks.FlowPlaces.{FlowPlacesValue, IsFlowOf}
use Rattle.lay_flow.specs.Blocks.BlockLayout.{BlockLayout, Extents}
use Rattle.lay_flow.specs.Blocks.BlockPositions.{IsBlockLayout}

-- where the boxes with clearance and their clear edges are given, the blocks of a context have one layout and no other
abbrev pub OneBlockLayout : Type 0
OneBlockLayout = (boxes : List FlowBox) (y z : BlockLayout) → IsTree (parents_of boxes) → 0 < length boxes
    → y.extents ≡ z.extents → y.clear_edges ≡ z.clear_edges → y.runs.clears ≡ z.runs.clears
    → IsBlockLayout boxes y → IsBlockLayout boxes z → y ≡ z

abbrev pub SomeBlockLayout : Type 0
SomeBlockLayout = (boxes : List FlowBox) (extents : Extents) (clear_edges : List Length) (clears : List Bool)
    → IsTree (parents_of boxes) → 0 < length boxes → length clears ≡ length boxes
    → (y : BlockLayout) × (y.extents ≡ extents) × (y.clear_edges ≡ clear_edges) × (y.runs.clears ≡ clears) × IsBlockLayout boxes y

-- a context has a flow by its clearances, whichever boxes have clearance and wherever their clear edges are
abbrev pub SomeFlowByClearances : Type 0
SomeFlowByClearances = (boxes : List FlowBox) (clears : List Bool) (clear_edges : List Length) → IsFlowTree boxes
    → length clears ≡ length boxes → length clear_edges ≡ length boxes
    → (f : Flow) × (f.layout.runs.clears ≡ clears) × (f.layout.clear_edges ≡ clear_edges) × IsFlowByClearances boxes f

-- a context has one flow
abbrev pub OneContextFlow : Type 0
OneContextFlow = (boxes : List FlowBox) (f g : Flow) → IsFlowTree boxes → IsContextFlow boxes f → IsContextFlow boxes g → f ≡ g

abbrev pub SomeContextFlow : Type 0
SomeContextFlow = (boxes : List FlowBox) → IsFlowTree boxes → (f : Flow) × IsContextFlow boxes f

-- and its boxes have one place each
abbrev pub OneFlowOf : Type 0
OneFlowOf = (boxes : List FlowBox) (out other : FlowPlacesValue) → IsFlowTree boxes → IsFlowOf boxes out
    → IsFlowOf boxes other → out ≡ other

abbrev pub SomeFlowOf : Type 0
SomeFlowOf = (boxes : List FlowBox) → IsFlowTree boxes → (out : FlowPlacesValue) × IsFlowOf boxes out

-- a box has one hypothetical layout and no other
abbrev pub OneHypothetical : Type 0
OneHypothetical = (boxes : List FlowBox) (y without other : BlockLayout) (k : ℕ) → IsTree (parents_of boxes) → 0 < length boxes
    → IsHypothetical boxes y k without → IsHypothetical boxes y k other → without ≡ other

abbrev pub SomeHypothetical : Type 0
SomeHypothetical = (boxes : List FlowBox) (y : BlockLayout) (k : ℕ) → IsTree (parents_of boxes) → 0 < length boxes
    → IsBlockLayout boxes y → (without : BlockLayout) × IsHypothetical boxes y k without

-- the floats as they stand in the hypothetical layout of a box and those of the flow decide alike whether the box has clearance
abbrev pub OneTest : Type 0
OneTest = (boxes : List FlowBox) (f : Flow) (k : ℕ) (without : BlockLayout) (places : List Spot) (bottom other : Option Length)
    → IsFlowTree boxes → IsContextFlow boxes f → 0 < k → k < length boxes
    → IsHypothetical boxes f.layout k without → AreFloatPlaces boxes without.places.marks places k
    → IsClearEdge (floats_before boxes places k) (shape_at boxes k).clear bottom
    → IsClearEdge (floats_before boxes f.places k) (shape_at boxes k).clear other
    → NeedsClearance boxes without k bottom ↔ NeedsClearance boxes without k other

-- the runs of a layout are the longest chains of margins of which each adjoins the next
abbrev pub AdjoiningRuns : Type 0
AdjoiningRuns = (boxes : List FlowBox) (r : Runs) → IsTree (parents_of boxes) → HasRuns boxes r → RunsAdjoin boxes r

-- a box is collapsed through just where it has no border or padding, no min-height and a height of auto or 0, and each of its
-- children is collapsed through and has no clearance
abbrev pub CollapsedThrough : Type 0
CollapsedThrough = (boxes : List FlowBox) (r : Runs) → IsTree (parents_of boxes) → HasRuns boxes r → (p : ℕ) → 0 < p → p < length boxes
    → (flag_at r.through p ≡ true) ↔ ((may_collapse_through (block_at boxes p) ≡ true)
    × ((c : ℕ) → c < length boxes → is_child boxes p c ≡ true → (flag_at r.through c ≡ true) × (flag_at r.clears c ≡ false)))
