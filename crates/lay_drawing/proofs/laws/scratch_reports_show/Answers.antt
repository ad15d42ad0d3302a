use Rattle.lay_drawing.proofs.Scratches.{shows_lem}
use Rattle.lay_drawing.proofs.laws.scratch_reports_show.Goals as goal

pub returns : goal.returns
returns c = shows_lem
