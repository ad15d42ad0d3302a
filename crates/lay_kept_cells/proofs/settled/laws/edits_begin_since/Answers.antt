use Rattle.lay_kept_cells.proofs.SettledLemmas.SinceSteps.{edits_begin_since_lem}
use Rattle.lay_kept_cells.proofs.settled.laws.edits_begin_since.Goals as goal

pub returns : goal.returns
returns c = edits_begin_since_lem
