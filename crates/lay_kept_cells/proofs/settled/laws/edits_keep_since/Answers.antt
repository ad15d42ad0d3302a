use Rattle.lay_kept_cells.proofs.SettledLemmas.SinceSteps.{edits_keep_since_lem}
use Rattle.lay_kept_cells.proofs.settled.laws.edits_keep_since.Goals as goal

pub returns : goal.returns
returns c = edits_keep_since_lem
