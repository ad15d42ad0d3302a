use Rattle.lay_valign.proofs.OneShape.{one_shape_lem}
use Rattle.lay_valign.proofs.laws.one_shape.Goals as goal

pub returns : goal.returns
returns c = one_shape_lem
