use Rattle.lay_kept_cells.proofs.StepsLemmas.ReadyRows.{kept_values_are_counted_lem}
use Rattle.lay_kept_cells.proofs.steps.ready_cells.kept_values_are_counted.Goals as goal

pub returns : goal.returns
returns c = kept_values_are_counted_lem
