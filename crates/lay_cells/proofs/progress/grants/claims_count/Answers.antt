use Rattle.lay_cells.proofs.ProgressLemmas.CountedGrants.{claims_count_lem}
use Rattle.lay_cells.proofs.progress.grants.claims_count.Goals as goal

pub returns : goal.returns
returns g c = claims_count_lem
