use Rattle.std.proofs.Common.{◌+◌, arith}
use Rattle.std.proofs.lemmas.Int.{ints}
use Rattle.lay_grid.proofs.AutomaticLemmas.SpreadSteps.{size_at, sum_over_more}
use Rattle.lay_grid.proofs.automatic.spread.sum_over.Goals as goal

pub loop-k-preserved : goal.loop-k-preserved
loop-k-preserved c =
    let lt = c.loop-k-test.true in let inside = c.requires.inside in let few = c.requires.few in
    let m = sum_over_more c.args.widths.now c.args.column c.loop-k.k c.args.count lt in
    let p = size_at c.args.widths.now c.requires.sizes (c.args.column + c.loop-k.k) (omega (arith, lt, inside)) in
    let p0 = p.0 in let p1 = p.1 in
    let i = c.loop-k.invariant in let v = i.value in let a = i.least in let b = i.most in
    let f = c.from-sum.ensures in
    record {
      value = omega (arith, ints, m, p0, p1, v, a, b, f, lt, inside, few);
      least = omega (arith, ints, p0, p1, a, b, f, lt, inside, few);
      most = omega (arith, ints, p0, p1, a, b, f, lt, inside, few);
    }
