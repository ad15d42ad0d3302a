use Rattle.std.proofs.Common.{◌≡◌, ◌+◌, [], ◌∷◌, ◌++◌, arith, take}
use Rattle.std.proofs.lemmas.Grind.{common_steps}
use Rattle.lay_placement.proofs.LastSeen.{with_line}
use Rattle.lay_placement.proofs.baselines.last_baseline_or.Goals as goal

pub loop-k-preserved : goal.loop-k-preserved
loop-k-preserved c =
    let next = c.in_ok-last.ensures {u = tt} in
    let stepped : take (c.loop-k.k + 1) c.args.rows.now ≡ take c.loop-k.k c.args.rows.now ++ c.index-rows-k.result ∷ [] =
    grind (arith, common_steps, c.index-rows-k.is, c.loop-k-test.true) in
    record {
      value = rw stepped (with_line c.args.before c.loop-k.last c.in_ok-last.last (take c.loop-k.k c.args.rows.now) c.index-rows-k.result c.loop-k.invariant.value next.value);
      near = next.near;
    }
