use Rattle.lay_table_sizes.proofs.SizeSteps.{held_step, used_step}
use Rattle.lay_table_sizes.proofs.sizing.held.Goals as goal

pub loop-k-preserved : goal.loop-k-preserved
loop-k-preserved c =
    let ok = c.in_ok-push.ensures {u = tt} in
    let is = c.held_width.ensures in
    let value = is.value in
    record {
      value = rw (ok.items, value) (held_step c.loop-k.used.items c.args.widths.now c.loop-k.k c.width_at.result c.width_at.ensures c.loop-k.invariant.value);
      sizes = rw ok.items (used_step c.loop-k.used.items c.held_width.result c.loop-k.invariant.sizes is.size);
    }
