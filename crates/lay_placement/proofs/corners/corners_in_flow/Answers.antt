use Rattle.std.proofs.Common.{arith}
use Rattle.std.proofs.lemmas.Grind.{elements}
use Rattle.lay_placements.proofs.CornerColumns.{one_more, one_more_near}
use Rattle.lay_placement.specs.BoxStandings.{corner_in_flow}
use Rattle.lay_placement.proofs.corners.corners_in_flow.Goals as goal

pub loop-k-preserved : goal.loop-k-preserved
loop-k-preserved c =
    let pushed = (c.in_ok-push.ensures {u = tt}).items in
    let found = c.corner_in_flow-corner.ensures in
    record {
      count = rw pushed (grind (arith, elements, c.loop-k.invariant.count));
      each = rw pushed (one_more (corner_in_flow c.args.places.now.places) c.loop-k.corners.items c.loop-k.k c.corner_in_flow-corner.result c.loop-k.invariant.count c.loop-k.invariant.each found.corner);
      near = rw pushed (one_more_near c.loop-k.corners.items c.corner_in_flow-corner.result c.loop-k.invariant.near found.near);
    }
