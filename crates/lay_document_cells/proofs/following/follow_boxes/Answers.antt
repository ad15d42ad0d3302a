use Rattle.std.proofs.Common.{arith}
use Rattle.lay_document_cells.proofs.following.follow_boxes.Goals as goal

pub returns-clause-counted : goal.returns-clause-counted
returns-clause-counted c =
    let marked = c.marks_count.ensures c.args.cells.now.rows c.mark.new.self.rows _ c.mark.ensures.rows in
    omega (arith, marked)
