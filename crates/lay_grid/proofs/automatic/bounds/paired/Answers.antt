use Rattle.std.proofs.Common.{arith, refl}
use Rattle.std.proofs.lemmas.Int.{ints, clamps}
use Rattle.lay_grid.proofs.AutomaticLemmas.ShareSteps.{paired_pushed}
use Rattle.lay_grid.proofs.automatic.bounds.paired.Goals as goal

pub loop-k-preserved : goal.loop-k-preserved
loop-k-preserved c =
    let i = c.loop-k.invariant in let m = c.max.ensures.value in
    let h = paired_pushed c.args.minimums.now c.args.maximums.now c.loop-k.k c.loop-k.bounds.items _ _ (c.in_ok-push.ensures {u = tt}).items
    refl (omega (arith, ints, clamps, m)) (i.as_many, (i.min, i.max)) in
    record { as_many = h.0; min = h.1.0; max = h.1.1 }
