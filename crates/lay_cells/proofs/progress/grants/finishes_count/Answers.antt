use Rattle.lay_cells.proofs.ProgressLemmas.CountedGrants.{finishes_count_lem}
use Rattle.lay_cells.proofs.progress.grants.finishes_count.Goals as goal

pub returns : goal.returns
returns g c = finishes_count_lem
