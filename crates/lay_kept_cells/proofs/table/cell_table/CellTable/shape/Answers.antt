use Rattle.std.proofs.Common.{ap, sym, subst}
use Rattle.lay_shape.specs.Keys.{AreOfOwnNodes}
use Rattle.lay_shape.specs.Touched.ContextFlags.{ContextLists}
use Rattle.lay_kept_cells.proofs.table.cell_table.CellTable.shape.Goals as goal

pub shape-requires : goal.shape-requires
shape-requires c = subst AreOfOwnNodes (sym (ap (λ (t : ContextLists). t.contexts) c.self.view_is)) c.requires
