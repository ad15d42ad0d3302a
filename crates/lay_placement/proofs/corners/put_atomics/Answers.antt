use Rattle.std.proofs.Common.{◌∙◌, arith}
use Rattle.lay_placement.proofs.AtomicSteps.{at_piece}
use Rattle.lay_placement.proofs.corners.put_atomics.Goals as goal

pub loop-i-preserved : goal.loop-i-preserved
loop-i-preserved c =
    let put = c.in_ok-put_atomic.ensures {u = tt} in
    let inv = c.loop-i.invariant in
    record {
      count = put.count ∙ inv.count;
      each = λ k lt. at_piece c.args.pieces.now c.loop-i.i _ k _ _ _ c.loop-i-test.true (inv.each k lt) (put.each k (omega (arith, lt, inv.count)));
      near = put.near;
    }
