use Rattle.lay_table_sizes.proofs.SizeSteps.{one_more}
use Rattle.lay_table_sizes.proofs.sizing.sizes_of_boxes.Goals as goal

pub loop-k-preserved : goal.loop-k-preserved
loop-k-preserved c =
    let ok = c.in_ok-push.ensures {u = tt} in
    let z = c.sizes_of_box.ensures in
    rw ok.items (one_more c.args.place c.args.wrapper c.args.table c.loop-k.sizes.items c.loop-k.k c.sizes_of_box.result c.loop-k.invariant z.value z.fits)
