use Rattle.lay_cells.proofs.ProgressLemmas.ChangedRows.{claims_keep_rows_lem}
use Rattle.lay_cells.proofs.progress.progress.claims_keep_rows.Goals as goal

pub returns : goal.returns
returns g c = claims_keep_rows_lem
