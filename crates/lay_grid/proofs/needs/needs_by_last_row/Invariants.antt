use Rattle.lay_grid.specs.Pass.Needs.{AllNeedsTo}
use Rattle.lay_grid.proofs.needs.needs_by_last_row.Given as goal

abbrev pub invariant-loop-cell : goal.invariant-loop-cell
invariant-loop-cell l = AllNeedsTo l.cells l.cell-index l.fn.rows l.needs.items
