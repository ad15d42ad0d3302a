use Rattle.lay_cells.proofs.ProgressLemmas.ChangedRows.{give_backs_keep_rows_lem}
use Rattle.lay_cells.proofs.progress.progress.give_backs_keep_rows.Goals as goal

pub returns : goal.returns
returns g c = give_backs_keep_rows_lem
