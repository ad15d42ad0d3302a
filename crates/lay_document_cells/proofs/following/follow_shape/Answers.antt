use Rattle.std.proofs.Common.{arith, []}
use Rattle.lay_document_cells.proofs.following.follow_shape.Goals as goal

pub returns-clause-counted : goal.returns-clause-counted
returns-clause-counted c =
    let marked = c.marks_count.ensures c.reshape.new.self.rows c.mark.new.self.rows _ c.mark.ensures.rows in
    let shaped = c.reshapes_count.ensures c.args.cells.now c.reshape.new.self c.args.shape [] c.shaped.ensures c.in_ok-reshape.ensures.ok in
    omega (arith, marked, shaped)
