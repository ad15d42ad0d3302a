use Rattle.lay_kept_cells.proofs.StepsLemmas.ReadyRows.{ready_to_input_lem}
use Rattle.lay_kept_cells.proofs.steps.ready_cells.ready_to_input.Goals as goal

pub returns : goal.returns
returns c = ready_to_input_lem c.grids_are_of_boxes.ensures c.needs_are_shaped.ensures
