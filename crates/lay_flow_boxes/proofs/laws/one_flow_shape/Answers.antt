use Rattle.lay_flow_boxes.proofs.OneShapes.{one_flow_shape_lem}
use Rattle.lay_flow_boxes.proofs.laws.one_flow_shape.Goals as goal

pub returns : goal.returns
returns c = one_flow_shape_lem
