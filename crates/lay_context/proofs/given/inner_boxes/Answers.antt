use Rattle.lay_contexts.specs.FormattingContexts.{formatting_context_at}
use Rattle.lay_context.specs.DocumentLayout.{flow_number, own_box_in}
use Rattle.lay_context.proofs.GivenFacts.{one_more_fits, one_more_of}
use Rattle.lay_context.proofs.given.inner_boxes.Goals as goal

pub loop-k-preserved : goal.loop-k-preserved
loop-k-preserved g c =
    let at = c.args.at.now in
    let pushed = (c.in_ok-push.ensures {u = tt}).items in
    let within = rw (c.inner-count.ensures, c.formatting_context.ensures.context) at c.loop-k-test.true in
    let is = rw (c.inner_at.ensures.known, c.inner_at.ensures.number) at c.own_box_in.ensures.value in
    record {
      boxes = rw pushed (one_more_of (own_box_in (g.V.Values.workings at.known.now).places) (flow_number at.contexts.now) (formatting_context_at at.contexts.now at.number).inner c.loop-k.k c.loop-k.boxes.items c.own_box_in.result within c.loop-k.invariant.boxes is);
      fit = rw pushed (one_more_fits c.loop-k.boxes.items c.own_box_in.result c.loop-k.invariant.fit c.own_box_in.ensures.fits);
    }
