use Rattle.lay_table_grid.specs.Pass.CellLists.{CellListsTo}
use Rattle.lay_table_grid.proofs.cells.cell_lists.Given as goal

abbrev pub invariant-loop-k : goal.invariant-loop-k
invariant-loop-k l = CellListsTo l.boxes l.k l.lists.items
