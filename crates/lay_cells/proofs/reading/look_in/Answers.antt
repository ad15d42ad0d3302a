use Rattle.std.proofs.Common.{map, subst}
use Rattle.lay_cells.specs.Rows.{row_of}
use Rattle.lay_cells.specs.Looks.{Looks}
use Rattle.lay_cells.proofs.reading.look_in.Goals as goal

pub returns-in-Some : goal.returns-in-Some
returns-in-Some g c =
    let f = c.in-Some.ensures.found in
    subst (λ k. Looks (map row_of c.args.cells.now) k c.look_at.result) f.1.1 (c.look_at.ensures f.0 f.1.0)
