use Rattle.lay_cells.proofs.ProgressLemmas.CleanedCells.{granted_claims_are_released_lem}
use Rattle.lay_cells.proofs.progress.settled.granted_claims_are_released.Goals as goal

pub returns : goal.returns
returns g c = granted_claims_are_released_lem _
