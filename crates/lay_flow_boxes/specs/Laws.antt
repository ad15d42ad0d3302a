-- The boxes of a formatting context are something to its block flow, and one thing alone.
use Rattle.std.specs.Prelude.{◌≡◌}
use Rattle.lay_box_tree.specs.ContextBoxes.{AreContextBoxes}
use Rattle.lay_flow_boxes.specs.FlowShapes.{FlowShape, IsFlowShape}
use Rattle.lay_flow_boxes.specs.PlaceInputs.{PlaceInput}

abbrev pub OneFlowShape : Type 0
OneFlowShape = (i : PlaceInput) (s t : FlowShape) → AreContextBoxes i.boxes → IsFlowShape i s → IsFlowShape i t → s ≡ t

abbrev pub SomeFlowShape : Type 0
SomeFlowShape = (i : PlaceInput) → AreContextBoxes i.boxes → (s : FlowShape) × IsFlowShape i s
