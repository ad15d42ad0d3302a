use Rattle.std.proofs.Common.{arith, map}
use Rattle.lay_cells.specs.Rows.{row_of}
use Rattle.lay_cells.proofs.ByPlace.{at_within, lowest_from}
use Rattle.lay_cells.proofs.Lists.{in_bounds, map_at}
use Rattle.lay_cells.proofs.places.dirty_from.Goals as goal

pub returns-then-lowest-cells-clause-some : goal.returns-then-lowest-cells-clause-some
returns-then-lowest-cells-clause-some g c =
    let cells = c.args.cells.now in
    let x = at_within cells c.args.lowest c.if-lowest-cells.true in
    lowest_from (map row_of cells) c.args.lowest c.args.place c.requires (omega (arith, c.if-lowest-place.false)) (row_of x.0) (map_at row_of cells c.args.lowest x.0 x.1)

pub returns-clause-none : goal.returns-clause-none
returns-clause-none g c j from q at = let within = in_bounds row_of c.args.cells.now j q at in c.requires.before j (omega (arith, within, c.if-lowest-cells.false)) q at
