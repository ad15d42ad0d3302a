use Rattle.std.proofs.Common.{arith}
use Rattle.lay_kept_cells.proofs.table.cell_values.CellValuesValues.placed.Goals as goal

pub root_at-requires : goal.root_at-requires
root_at-requires c =
    let counts = c.kept_values_are_counted.ensures c.args.self.now.table.now.contexts c.args.self.now.table.now.formatting_contexts c.args.self.now.cells.now.rows c.formatting_contexts.ensures.are in
    let count = counts.places in
    omega (arith, count, c.requires)
