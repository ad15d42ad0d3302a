use Rattle.std.proofs.Common.{arith, ap, length}
use Rattle.lay_flow_boxes.proofs.LeftSteps.{one_more}
use Rattle.lay_flow_boxes.proofs.context_blocks.lefts_of.Goals as goal

pub loop-k-preserved : goal.loop-k-preserved
loop-k-preserved c =
    let ok = c.in_ok-push.ensures {u = tt} in
    let found = c.in_ok-left.ensures {u = tt} in
    let fits = c.boxes-boxes.ensures.fits in
    let counted = ap length c.boxes-boxes.ensures.boxes in
    let is = rw c.deref.ensures.value at found.left in
    rw ok.items (one_more c.args.input.now.boxes c.args.input.now.sizes c.args.input.now.inner c.loop-k.lefts.items c.loop-k.k c.in_ok-left.left fits.boxes (omega (arith, counted)) c.loop-k.invariant is found.near)
