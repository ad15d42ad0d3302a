use Rattle.lay_cells.proofs.ProgressLemmas.CountedGrants.{reshapes_draw_lem}
use Rattle.lay_cells.proofs.progress.grants.reshapes_draw.Goals as goal

pub returns : goal.returns
returns g c = reshapes_draw_lem
