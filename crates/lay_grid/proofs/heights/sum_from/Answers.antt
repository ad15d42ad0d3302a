use Rattle.std.proofs.Common.{ap, pos, arith}
use Rattle.std.proofs.lemmas.Int.{ints}
use Rattle.std.proofs.lemmas.List.{drop_more}
use Rattle.lay_units.specs.declared.length.Unit.{Unit}
use Rattle.lay_grid.specs.Shares.{sum_of}
use Rattle.lay_grid.proofs.heights.sum_from.Goals as goal

pub loop-k-preserved : goal.loop-k-preserved
loop-k-preserved c =
    let zero : Unit = record { 0 = pos 0 } in
    let lt = c.loop-k-test.true in
    let d = ap sum_of (drop_more c.args.above.now c.loop-k.k zero lt) in
    let p = c.requires.fits c.loop-k.k zero lt in
    let i = c.loop-k.invariant in
    let v = i.value in let b = i.below in let a = i.above in
    record {
      value = omega (arith, ints, d, p, v, a, b);
      below = omega (arith, ints, p, a, b);
      above = omega (arith, ints, p, a, b);
    }
