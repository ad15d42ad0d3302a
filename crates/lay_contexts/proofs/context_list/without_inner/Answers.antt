use Rattle.std.proofs.Common.{arith}
use Rattle.lay_contexts.proofs.ContextNumbers.{blank, from_one, one_blank}
use Rattle.lay_contexts.proofs.context_list.without_inner.Goals as goal

pub loop-i-preserved : goal.loop-i-preserved
loop-i-preserved c =
    let pushed = (c.in_ok-push.ensures {u = tt}).items in
    let made = c.in_ok-context.ensures {u = tt} in
    let spot = rw (c.spot_at.ensures, c.deref.ensures.value) at made.spot in
    let boxes = rw (c.boxes_at.ensures, c.deref-in-loop-i.ensures.value) at made.boxes in
    rw pushed (one_blank c.args.list.now.spots.items c.args.list.now.boxes.items c.loop-i.items.items c.in_ok-context.context c.loop-i.i c.loop-i.invariant
    (blank c.args.list.now.spots.items c.args.list.now.boxes.items c.loop-i.i c.in_ok-context.context spot boxes made.inner))

pub returns : goal.returns
returns c = from_one c.args.list.now.spots.items c.args.list.now.boxes.items c.loop-i.items.items c.loop-i.i (omega arith) c.loop-i.invariant
