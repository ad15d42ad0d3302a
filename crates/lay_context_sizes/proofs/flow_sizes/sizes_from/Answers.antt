use Rattle.std.proofs.Common.{arith, ap, length}
use Rattle.lay_context_sizes.proofs.SizeSteps.{one_more}
use Rattle.lay_context_sizes.proofs.flow_sizes.sizes_from.Goals as goal

pub loop-k-preserved : goal.loop-k-preserved
loop-k-preserved c =
    let pushed = (c.in_ok-push-2.ensures {u = tt}).items in
    let counted = ap length c.as_slice-count.ensures.boxes in
    let each = rw c.deref.ensures.value at c.inside_sizes-inside.ensures.each in
    rw pushed (one_more c.args.own c.args.boxes.now c.loop-k.sizes.items c.loop-k.k c.inside_sizes-inside.result c.as_slice-count.ensures.are (omega (arith, counted)) c.loop-k.invariant each c.inside_sizes-inside.ensures.inner c.inside_sizes-inside.ensures.fits)
