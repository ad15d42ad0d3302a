use Rattle.lay_kept_cells.proofs.StepsLemmas.ReadyRows.{assembled_trees_solve_lem}
use Rattle.lay_kept_cells.proofs.steps.ready_cells.assembled_trees_solve.Goals as goal

pub returns : goal.returns
returns c = assembled_trees_solve_lem c.clean_cells_solve.ensures
