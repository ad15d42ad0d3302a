use Rattle.lay_kept_cells.proofs.StepsLemmas.NewRows.{new_cells_are_sound_lem}
use Rattle.lay_kept_cells.proofs.steps.laws.new_cells_are_sound.Goals as goal

pub returns : goal.returns
returns c = new_cells_are_sound_lem
