use Rattle.lay_shape.proofs.CellLaws.{cells_are_of_contexts_lem}
use Rattle.lay_shape.proofs.laws.cells_are_of_contexts.Goals as goal

pub returns : goal.returns
returns c = cells_are_of_contexts_lem
