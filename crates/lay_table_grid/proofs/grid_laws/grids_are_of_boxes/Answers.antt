use Rattle.lay_table_grid.proofs.PlacesBelow.{grids_are_of_boxes_lem}
use Rattle.lay_table_grid.proofs.grid_laws.grids_are_of_boxes.Goals as goal

pub returns : goal.returns
returns c = grids_are_of_boxes_lem
