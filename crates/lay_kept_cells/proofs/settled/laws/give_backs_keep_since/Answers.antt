use Rattle.lay_kept_cells.proofs.SettledLemmas.SinceSteps.{give_backs_keep_since_lem}
use Rattle.lay_kept_cells.proofs.settled.laws.give_backs_keep_since.Goals as goal

pub returns : goal.returns
returns c = give_backs_keep_since_lem
