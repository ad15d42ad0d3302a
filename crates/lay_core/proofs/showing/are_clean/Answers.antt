use Rattle.lay_core.proofs.CleanCells.{told_by}
use Rattle.lay_core.proofs.showing.are_clean.Goals as goal

pub returns : goal.returns
returns c = told_by c.is_settled.result c.args.cells.now.cells.rows c.is_settled.ensures
