use Rattle.std.proofs.Common.{arith}
use Rattle.lay_positioned.proofs.LevelSteps.{all_below}
use Rattle.lay_positioned.proofs.level_column.level_count.Goals as goal
use Rattle.lay_positioned.proofs.level_column.level_count.Goals.{then-levels-k, else-levels-k}

pub loop-k-preserved : goal.loop-k-preserved
loop-k-preserved c =
    let levels = c.args.levels.now in
    let k = c.loop-k.k in
    let within = c.loop-k-test.true in
    let so_far = c.loop-k.invariant in
    let small = c.requires.few k within in
    elim c.if-levels-k.branch [
      | then-levels-k w ↦ record {
        some = omega (arith, w.count-is);
        above = all_below levels k c.loop-k.count c.if-levels-k.count so_far.above (omega (arith, w.if-levels-k.true, w.count-is)) (omega (arith, w.count-is));
        least = λ n some below. (let own = below k (omega arith) in omega (arith, own, w.count-is));
        small = omega (arith, small, w.count-is);
      }
      | else-levels-k w ↦ record {
        some = omega (arith, so_far.some, w.count-is);
        above = all_below levels k c.loop-k.count c.if-levels-k.count so_far.above (omega (arith, w.count-is)) (omega (arith, w.if-levels-k.false, w.count-is));
        least = λ n some below. (let e = so_far.least n some (λ j lt. below j (omega (arith, lt))) in omega (arith, e, w.count-is));
        small = omega (arith, so_far.small, w.count-is);
      }
    ]
