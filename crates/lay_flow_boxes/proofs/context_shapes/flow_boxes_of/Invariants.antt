use Rattle.std.proofs.Common.{◌≡◌, ◌<◌, ℕ, length}
use Rattle.lay_flow.specs.Blocks.Boxes.{box_at}
use Rattle.lay_flow_boxes.specs.ContextBlocks.{flow_box_of}
use Rattle.lay_flow_boxes.specs.FlowShapes.{measures_in}
use Rattle.lay_flow_boxes.proofs.context_shapes.flow_boxes_of.Given as goal

abbrev pub invariant-loop-k : goal.invariant-loop-k
invariant-loop-k l = record {
  count : length l.flow_boxes.items ≡ l.k;
  each : (k : ℕ) → k < l.k → box_at l.flow_boxes.items k ≡ flow_box_of (measures_in l.input l.parts) l.input.own_height l.lefts k;
}
