use Rattle.lay_cells.proofs.ProgressLemmas.CountedGrants.{give_backs_count_lem}
use Rattle.lay_cells.proofs.progress.grants.give_backs_count.Goals as goal

pub returns : goal.returns
returns g c = give_backs_count_lem
