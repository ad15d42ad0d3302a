use Rattle.lay_kept_cells.proofs.SettledLemmas.SinceSteps.{claims_keep_since_lem}
use Rattle.lay_kept_cells.proofs.settled.laws.claims_keep_since.Goals as goal

pub returns : goal.returns
returns c = claims_keep_since_lem
