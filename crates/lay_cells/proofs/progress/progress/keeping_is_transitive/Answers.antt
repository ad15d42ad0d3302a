use Rattle.lay_cells.proofs.ProgressLemmas.ChangedRows.{keeping_is_transitive_lem}
use Rattle.lay_cells.proofs.progress.progress.keeping_is_transitive.Goals as goal

pub returns : goal.returns
returns g c = keeping_is_transitive_lem
