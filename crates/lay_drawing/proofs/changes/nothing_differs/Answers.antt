use Rattle.lay_drawing.proofs.Nothing.{nothing_lem}
use Rattle.lay_drawing.proofs.changes.nothing_differs.Goals as goal

pub returns : goal.returns
returns c = nothing_lem
