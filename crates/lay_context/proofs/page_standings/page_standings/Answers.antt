use Rattle.lay_placements.proofs.StandingColumns.{one_more_near}
use Rattle.lay_context.proofs.StandingSteps.{one_more_standing}
use Rattle.lay_context.proofs.page_standings.page_standings.Goals as goal

pub loop-i-preserved : goal.loop-i-preserved
loop-i-preserved g c =
    let pushed = (c.in_ok-push.ensures {u = tt}).items in
    record {
      noted = rw pushed (one_more_standing c.args.laid.now.contexts.now (g.V.Values.workings c.args.laid.now.known.now).places c.loop-i.standings.items c.standing_of.result c.loop-i.i
          c.loop-i.invariant.noted c.standing_of.ensures.standing);
      near = rw pushed (one_more_near c.loop-i.standings.items c.standing_of.result c.loop-i.invariant.near c.standing_of.ensures.fits);
    }
