use Rattle.lay_cells.proofs.ProgressLemmas.CountedGrants.{reshapes_count_lem}
use Rattle.lay_cells.proofs.progress.grants.reshapes_count.Goals as goal

pub returns : goal.returns
returns g c = reshapes_count_lem
