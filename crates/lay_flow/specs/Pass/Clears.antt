-- What a pass over a context decides before it reads the top margin of a box with `clear`.
use Rattle.std.specs.Prelude.{ℕ, ◌≡◌, ◌<◌, ◌≤◌, ℤ, false, List, length, Option, Some}
use Rattle.lay_flow.specs.declared.blocks.flow_box.FlowBox.{FlowBox}
use Rattle.lay_units.specs.declared.length.Unit.{Unit as Length}
use Rattle.lay_floats.specs.declared.placed.Placed.{Placed}
use Rattle.lay_floats.specs.declared.requests.Side.{Side}
use Rattle.lay_floats.specs.declared.requests.Clear.{Clear}
use Rattle.lay_floats.specs.ClearEdge.{Clears, IsClearEdge}
use Rattle.lay_flow.specs.Blocks.Lengths.{length_at}
use Rattle.lay_flow.specs.Blocks.Children.{flag_at}
use Rattle.lay_flow.specs.Blocks.BlockFloats.{shape_at}
use Rattle.lay_flow.specs.Blocks.Clearance.{IsAbove}
use Rattle.lay_flow.specs.Blocks.BlockLayout.{BlockLayout}
use Rattle.lay_flow.specs.declared.pass.Pass.{Pass}
use Rattle.lay_flow.specs.Pass.State.{clearances_of}
use Rattle.lay_flow.specs.Pass.Bounds.{state_of}
use Rattle.lay_flow.specs.Pass.Knows.{MayBe, IsCandidate}

-- a float of a side to clear
abbrev pub IsSideToClear : Clear → Option Side → Type 0
IsSideToClear clear float = (side : Side) × (float ≡ Some side) × Clears clear side

-- a float that the box at k goes past stands among the boxes from `first` on
abbrev pub HasWaitingFloat : List FlowBox → ℕ → ℕ → Type 0
HasWaitingFloat boxes first k = (j : ℕ) × (first ≤ j) × (j < k) × IsSideToClear (shape_at boxes k).clear (shape_at boxes j).float

-- a hypothetical edge is above the lowest bottom of the floats to clear
abbrev pub IsAboveFloats : List Placed → Clear → ℤ → Type 0
IsAboveFloats floats clear hypothetical = (bottom : Option Length) × IsClearEdge floats clear bottom × IsAbove hypothetical bottom

-- the mark of the box at k in each layout that the blocks may have with the depths that the pass knows, but without clearance
-- from the box at k on
abbrev pub IsEdgeWithout : List FlowBox → Pass → ℕ → ℤ → Type 0
IsEdgeWithout boxes flow k edge =
    (w : BlockLayout) → MayBe boxes (length flow.placing.places.items) flow.placing.extents.items w.extents
    → IsCandidate boxes w (clearances_of (state_of flow)) k → ((j : ℕ) → k ≤ j → flag_at w.runs.clears j ≡ false)
    → edge ≡ length_at w.places.marks k
