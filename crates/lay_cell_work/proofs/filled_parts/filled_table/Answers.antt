use Rattle.std.proofs.Common.{◌∙◌, ap, length}
use Rattle.lay_sizes.specs.OwnBoxes.{no_own_box}
use Rattle.lay_cell_work.specs.CellValues.{Places, own_boxes}
use Rattle.lay_cell_work.proofs.FilledColumns.{filled_count}
use Rattle.lay_cell_work.proofs.FilledParts.{refilled_table}
use Rattle.lay_cell_work.proofs.filled_parts.filled_table.Goals as goal

pub new-requires : goal.new-requires
new-requires c =
    let i = c.args.parts.now in
    let boxes = c.in_ok-boxes.ensures {u = tt} in
    let sizes = c.in_ok-sizes.ensures {u = tt} in
    let table = c.in_ok-table.ensures {u = tt} in
    let inner = rw c.inner.ensures at (c.in_ok-inner.ensures {u = tt}) in
    let inner_count = ap length inner ∙ filled_count no_own_box (own_boxes (Places c.args.places.now)) c.args.links.now i.inner in
    rw (boxes, c.boxes.ensures.boxes, sizes, c.sizes.ensures, table, c.table.ensures)
    (refilled_table i c.in_ok-inner.inner c.in_ok-pieces.pieces c.boxes.ensures.fits inner_count c.as_slice.ensures.fit)
