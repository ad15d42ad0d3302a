use Rattle.lay_cell_work.proofs.CellLawsLemmas.CleanCells.{clean_cells_solve_lem}
use Rattle.lay_cell_work.proofs.cell_laws.laws.clean_cells_solve.Goals as goal

pub returns : goal.returns
returns c = clean_cells_solve_lem c.anonymous_boxes_are_in_flow.ensures
