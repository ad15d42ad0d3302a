use Rattle.lay_shape.proofs.CellLaws.{needs_stand_before_lem}
use Rattle.lay_shape.proofs.laws.needs_stand_before.Goals as goal

pub returns : goal.returns
returns c = needs_stand_before_lem
