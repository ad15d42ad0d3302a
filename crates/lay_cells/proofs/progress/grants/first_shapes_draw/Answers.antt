use Rattle.lay_cells.proofs.ProgressLemmas.CountedGrants.{first_shapes_draw_lem}
use Rattle.lay_cells.proofs.progress.grants.first_shapes_draw.Goals as goal

pub returns : goal.returns
returns g c = first_shapes_draw_lem
