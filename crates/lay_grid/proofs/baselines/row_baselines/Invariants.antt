use Rattle.lay_grid.specs.Pass.Baselines.{BaselinesTo}
use Rattle.lay_grid.proofs.baselines.row_baselines.Given as goal

abbrev pub invariant-loop-cell : goal.invariant-loop-cell
invariant-loop-cell l = BaselinesTo l.cells l.cell-index l.fn.rows l.baselines.items
