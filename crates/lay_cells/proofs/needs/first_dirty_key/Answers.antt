use Rattle.std.proofs.Common.{arith, refl}
use Rattle.lay_cells.specs.Rows.{row_of}
use Rattle.lay_cells.proofs.Lists.{in_bounds}
use Rattle.lay_cells.proofs.needs.first_dirty_key.Goals as goal

pub returns-then-lowest-cells-clause-none : goal.returns-then-lowest-cells-clause-none
returns-then-lowest-cells-clause-none g c r at = let within = in_bounds row_of c.args.cells.now at.0 r at.1 in c.requires.before at.0 (omega (arith, within, c.if-lowest-cells.true)) r at.1

pub returns-clause-some : goal.returns-clause-some
returns-clause-some g c =
    let at = c.cell_at.ensures.row in (c.args.lowest, row_of c.cell_at.result.now, (at, refl), c.requires.at (row_of c.cell_at.result.now) at, c.requires.before)
