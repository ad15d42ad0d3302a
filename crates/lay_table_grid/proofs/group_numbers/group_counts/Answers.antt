use Rattle.lay_table_grid.proofs.GroupSteps.{counts_step}
use Rattle.lay_table_grid.proofs.group_numbers.group_counts.Goals as goal

pub loop-k-preserved : goal.loop-k-preserved
loop-k-preserved c =
    let ok = c.in_ok-push.ensures {u = tt} in
    let is = c.next_count-next.ensures in
    rw ok.items (counts_step c.args.boxes.now c.loop-k.k c.loop-k.counts.items c.loop-k.next c.next_count-next.result c.loop-k.invariant is.count is.few)
