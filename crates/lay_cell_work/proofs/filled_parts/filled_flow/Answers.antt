use Rattle.std.proofs.Common.{◌∙◌, [], ap, length}
use Rattle.lay_sizes.specs.OwnBoxes.{no_own_box}
use Rattle.lay_cell_work.specs.CellValues.{Places, own_boxes, own_pieces}
use Rattle.lay_cell_work.proofs.FilledColumns.{filled_count}
use Rattle.lay_cell_work.proofs.FilledParts.{refilled_flow}
use Rattle.lay_cell_work.proofs.filled_parts.filled_flow.Goals as goal

pub new-flow-requires : goal.new-flow-requires
new-flow-requires c =
    let i = c.args.parts.now in
    let boxes = c.in_ok-boxes.ensures {u = tt} in
    let sizes = c.in_ok-sizes.ensures {u = tt} in
    let inner = rw c.inner.ensures at (c.in_ok-inner.ensures {u = tt}) in
    let pieces = rw c.pieces.ensures at (c.in_ok-pieces.ensures {u = tt}) in
    let face = (c.in_ok-face.ensures {u = tt}).cases in
    let inner_count = ap length inner ∙ filled_count no_own_box (own_boxes (Places c.args.places.now)) c.args.links.now i.inner in
    let piece_count = ap length pieces ∙ filled_count [] (own_pieces (Places c.args.places.now)) c.args.links.now i.pieces in
    rw (boxes, c.boxes.ensures.boxes, sizes, c.sizes.ensures, face, c.face.ensures)
    (refilled_flow i c.in_ok-inner.inner c.in_ok-pieces.pieces c.boxes.ensures.fits inner_count piece_count c.as_slice.ensures.fit c.as_slice-2.ensures.near)
