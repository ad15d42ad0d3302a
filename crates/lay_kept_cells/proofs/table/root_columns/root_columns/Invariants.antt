use Rattle.lay_kept_cells.specs.Table.RootColumns.{AreRootColumnsTo}
use Rattle.lay_kept_cells.proofs.table.root_columns.root_columns.Given as goal

abbrev pub invariant-loop-i : goal.invariant-loop-i
invariant-loop-i l = AreRootColumnsTo l.contexts l.columns.roots.items l.columns.firsts.items l.i
