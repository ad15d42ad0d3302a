use Rattle.lay_measure.proofs.ChildLaws.{floats_alone_lem}
use Rattle.lay_measure.proofs.laws.floats_alone_add_up.Goals as goal

pub returns : goal.returns
returns c = floats_alone_lem
