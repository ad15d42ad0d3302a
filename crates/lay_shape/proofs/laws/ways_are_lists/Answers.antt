use Rattle.lay_shape.proofs.CellLaws.{ways_are_lists_lem}
use Rattle.lay_shape.proofs.laws.ways_are_lists.Goals as goal

pub returns : goal.returns
returns c = ways_are_lists_lem
