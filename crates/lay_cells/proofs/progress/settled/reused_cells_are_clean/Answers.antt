use Rattle.lay_cells.proofs.ProgressLemmas.CleanedCells.{reused_cells_are_clean_lem}
use Rattle.lay_cells.proofs.progress.settled.reused_cells_are_clean.Goals as goal

pub returns : goal.returns
returns g c = reused_cells_are_clean_lem
