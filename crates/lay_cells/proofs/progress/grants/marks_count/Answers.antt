use Rattle.lay_cells.proofs.ProgressLemmas.CountedGrants.{marks_count_lem}
use Rattle.lay_cells.proofs.progress.grants.marks_count.Goals as goal

pub returns : goal.returns
returns g c = marks_count_lem
