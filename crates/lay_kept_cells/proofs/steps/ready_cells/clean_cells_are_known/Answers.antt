use Rattle.lay_kept_cells.proofs.StepsLemmas.ReadyRows.{clean_cells_are_known_lem}
use Rattle.lay_kept_cells.proofs.steps.ready_cells.clean_cells_are_known.Goals as goal

pub returns : goal.returns
returns c = clean_cells_are_known_lem c.grids_are_of_boxes.ensures c.anonymous_boxes_are_in_flow.ensures
