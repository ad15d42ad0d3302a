use Rattle.std.proofs.Common.{rules, ◌≤◌, length, ap, ◌∙◌}
use Rattle.lay_flow.specs.Blocks.FlowPlaces.{IsFlowOf}
use Rattle.lay_flow.specs.Blocks.Weights.{weight}
use Rattle.lay_table.proofs.WrapperBoxes.{are_wrapper_boxes, as_many_boxes}
use Rattle.lay_table.proofs.wrapper_flow.wrapper_flow.Goals as goal

pub new-requires : goal.new-requires
new-requires c =
    let made = c.in_ok-boxes.ensures {u = tt} in
    let light : weight c.in_ok-boxes.boxes.items (length c.in_ok-boxes.boxes.items) ≤ 16711680 = search rules in
    are_wrapper_boxes c.args.input.now c.args.rows.now c.in_ok-boxes.boxes.items made.boxes made.fit light

pub returns-clause-count : goal.returns-clause-count
returns-clause-count c =
    let made = c.in_ok-boxes.ensures {u = tt} in
    let is : IsFlowOf c.in_ok-boxes.boxes.items c.in_ok-places.places = search rules in
    is.places.count ∙ ap length made.boxes ∙ as_many_boxes c.args.input.now c.args.rows.now
