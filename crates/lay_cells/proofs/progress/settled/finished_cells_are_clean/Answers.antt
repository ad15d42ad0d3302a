use Rattle.lay_cells.proofs.ProgressLemmas.CleanedCells.{finished_cells_are_clean_lem}
use Rattle.lay_cells.proofs.progress.settled.finished_cells_are_clean.Goals as goal

pub returns : goal.returns
returns g c = finished_cells_are_clean_lem _
