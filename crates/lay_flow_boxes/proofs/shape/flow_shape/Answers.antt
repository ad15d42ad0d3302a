use Rattle.std.proofs.Common.{rules, ◌≤◌, length}
use Rattle.lay_flow.specs.Blocks.Weights.{weight}
use Rattle.lay_flow_boxes.specs.ContextBlocks.{AreFlowBoxesOf}
use Rattle.lay_flow_boxes.specs.FlowShapes.{measures_in}
use Rattle.lay_flow_boxes.proofs.FlowFacts.{are_flow_boxes}
use Rattle.lay_flow_boxes.proofs.shape.flow_shape.Goals as goal

pub new-flow_boxes-requires : goal.new-flow_boxes-requires
new-flow_boxes-requires c =
    let lefts = c.in_ok-lefts.ensures {u = tt} in
    let of : AreFlowBoxesOf (measures_in c.args.input.now c.in_ok-parts.parts.items) c.args.input.now.own_height c.in_ok-lefts.lefts.items c.in_ok-flow_boxes.flow_boxes.items = search rules in
    let light : weight c.in_ok-flow_boxes.flow_boxes.items (length c.in_ok-flow_boxes.flow_boxes.items) ≤ 16711680 = search rules in
    let fits = c.boxes-boxes.ensures.fits in
    are_flow_boxes (measures_in c.args.input.now c.in_ok-parts.parts.items) c.args.input.now.own_height c.in_ok-lefts.lefts.items c.in_ok-flow_boxes.flow_boxes.items fits.boxes of
    light fits.size_count fits.size_bounds fits.inner_count fits.inner_bounds fits.own_height lefts.lefts.count lefts.near
