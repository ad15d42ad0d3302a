use Rattle.lay_kept_cells.proofs.SettledLemmas.SinceSteps.{finishes_keep_since_lem}
use Rattle.lay_kept_cells.proofs.settled.laws.finishes_keep_since.Goals as goal

pub returns : goal.returns
returns c = finishes_keep_since_lem
