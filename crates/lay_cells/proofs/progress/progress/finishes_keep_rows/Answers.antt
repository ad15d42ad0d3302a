use Rattle.lay_cells.proofs.ProgressLemmas.ChangedRows.{finishes_keep_rows_lem}
use Rattle.lay_cells.proofs.progress.progress.finishes_keep_rows.Goals as goal

pub returns : goal.returns
returns g c = finishes_keep_rows_lem
