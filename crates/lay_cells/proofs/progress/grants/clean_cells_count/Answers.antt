use Rattle.lay_cells.proofs.ProgressLemmas.CountedGrants.{clean_cells_count_lem}
use Rattle.lay_cells.proofs.progress.grants.clean_cells_count.Goals as goal

pub returns : goal.returns
returns g c = clean_cells_count_lem _
