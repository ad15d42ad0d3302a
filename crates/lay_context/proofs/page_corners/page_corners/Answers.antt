use Rattle.std.proofs.Common.{arith}
use Rattle.std.proofs.lemmas.Grind.{elements}
use Rattle.lay_placements.proofs.CornerColumns.{one_more_near}
use Rattle.lay_context.proofs.CornerSteps.{one_more}
use Rattle.lay_context.proofs.page_corners.page_corners.Goals as goal

pub loop-i-preserved : goal.loop-i-preserved
loop-i-preserved g c =
    let pushed = (c.in_ok-push.ensures {u = tt}).items in
    let found = c.in_ok-corner.ensures {u = tt} in
    let inner = rw c.deref.ensures.value at found.inner in
    let counted = c.loop-i.invariant.counted in
    record {
      counted = rw pushed (grind (arith, elements, counted));
      corners = rw pushed (one_more c.args.laid.now.contexts.now (g.V.Values.workings c.args.laid.now.known.now).places c.loop-i.corners.items c.in_ok-corner.corner c.len-count.ensures.are (omega (arith, counted))
          c.loop-i.invariant.corners (rw counted found.first) (rw counted inner));
      near = rw pushed (one_more_near c.loop-i.corners.items c.in_ok-corner.corner c.loop-i.invariant.near found.near);
    }

pub page_corner-requires-clause-before : goal.page_corner-requires-clause-before
page_corner-requires-clause-before g c = rw c.deref.ensures.value (omega (arith, c.loop-i.invariant.counted))
