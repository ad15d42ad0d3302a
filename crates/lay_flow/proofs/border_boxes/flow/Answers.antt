use Rattle.lay_flow.proofs.BorderBoxSteps.{is_flow_of}
use Rattle.lay_flow.proofs.border_boxes.flow.Goals as goal

pub returns : goal.returns
returns c =
    let left = c.in_ok-columns.ensures {u = tt} in
    let made = c.in_ok-places.ensures {u = tt} in
    rw c.new.ensures (rw c.as_slice.ensures.value at (is_flow_of c.as_slice.result.now c.in_ok-columns.columns left.columns c.in_ok-places.places.items made.places))
