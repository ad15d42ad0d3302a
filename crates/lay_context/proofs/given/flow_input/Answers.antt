use Rattle.std.proofs.Common.{refl, inl}
use Rattle.lay_context.proofs.PlaceInputs.{flow_input_fits}
use Rattle.lay_context.proofs.given.flow_input.Goals as goal

pub new-flow-requires : goal.new-flow-requires
new-flow-requires g c =
    let at = c.args.ready.now.at in
    let boxes = c.in_ok-boxes.ensures {u = tt} in
    let sizes = c.in_ok-sizes.ensures {u = tt} in
    let inner = c.in_ok-inner.ensures {u = tt} in
    let pieces = c.in_ok-pieces.ensures {u = tt} in
    let face = c.in_ok-face.ensures {u = tt} in
    let bounds = rw (sizes, c.boxes-2.ensures, c.sizes-sized.ensures) at c.as_slice.ensures.bounds in
    let fit = rw inner.boxes at inner.fit in
    let near = rw pieces.pieces at pieces.near in
    rw (boxes, c.boxes.ensures, c.formatting_context.ensures.context, sizes, c.boxes-2.ensures, c.sizes-sized.ensures, inner.boxes, pieces.pieces, face)
    (flow_input_fits at.contexts.now (g.V.Values.workings at.known.now) at.number c.formatting_context.ensures.are at.within (c.args.ready.now.ready.sized at.number (inl refl)) bounds fit c.args.medium.now near)
