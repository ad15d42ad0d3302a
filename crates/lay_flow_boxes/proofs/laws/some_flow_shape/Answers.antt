use Rattle.lay_flow_boxes.proofs.SomeShapes.{some_flow_shape_lem}
use Rattle.lay_flow_boxes.proofs.laws.some_flow_shape.Goals as goal

pub returns : goal.returns
returns c = some_flow_shape_lem
