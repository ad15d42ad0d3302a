use Rattle.std.proofs.Common.{refl, inl}
use Rattle.lay_context.proofs.PlaceInputs.{table_input_fits}
use Rattle.lay_context.proofs.given.table_input.Goals as goal

pub new-requires : goal.new-requires
new-requires g c =
    let at = c.args.ready.now.at in
    let boxes = c.in_ok-boxes.ensures {u = tt} in
    let sizes = c.in_ok-sizes.ensures {u = tt} in
    let inner = c.in_ok-inner.ensures {u = tt} in
    let pieces = c.in_ok-pieces.ensures {u = tt} in
    let bounds = rw (sizes, c.boxes-2.ensures, c.sizes.ensures) at c.as_slice.ensures.bounds in
    let fit = rw inner.boxes at inner.fit in
    rw (boxes, c.boxes.ensures, c.formatting_context.ensures.context, sizes, c.boxes-2.ensures, c.sizes.ensures, inner.boxes, pieces.pieces)
    (table_input_fits at.contexts.now (g.V.Values.workings at.known.now) at.number c.formatting_context.ensures.are at.within (c.args.ready.now.ready.sized at.number (inl refl)) bounds fit c.args.table c.requires.table)
