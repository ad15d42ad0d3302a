use Rattle.std.proofs.Common.{arith}
use Rattle.std.proofs.lemmas.Int.{ints}
use Rattle.lay_grid.proofs.SharedSteps.{rest_more}
use Rattle.lay_grid.proofs.shares.rest_of.Goals as goal

pub loop-own-preserved : goal.loop-own-preserved
loop-own-preserved c =
    let w = c.width_of.ensures.value in let f = c.width_of.ensures.fits.0 in let g = c.width_of.ensures.fits.1 in let e = c.from-rest.ensures in
    let i = c.loop-own.invariant in let b = i.below in let a = i.above in let few = c.requires.few in let lt = c.loop-own-test.true in
    record {
      value = rest_more c.args.owns.now c.loop-own.own-index _ _ _ lt i.value (omega (arith, ints, w, f, g, e, a, b, few, lt));
      below = omega (arith, ints, w, f, g, e, a, b, few, lt);
      above = omega (arith, ints, w, f, g, e, a, b, few, lt);
    }
