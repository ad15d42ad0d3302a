use Rattle.std.proofs.Common.{ap, pos, arith}
use Rattle.std.proofs.lemmas.Int.{ints}
use Rattle.std.proofs.lemmas.List.{drop_more}
use Rattle.lay_grid.specs.declared.automatic.bounds.Bound.{Bound}
use Rattle.lay_grid.specs.Automatic.AutoColumns.{sum_min}
use Rattle.lay_box_cases.proofs.auto_columns.minimums.Goals as goal

abbrev none : Bound
none = record { min = record { 0 = pos 0 }; max = record { 0 = pos 0 } }

pub loop-bound-preserved : goal.loop-bound-preserved
loop-bound-preserved c =
    let lt = c.loop-bound-test.true in let few = c.requires.few in
    let d = ap sum_min (drop_more c.args.bounds.now c.loop-bound.bound-index none lt) in
    let p = c.requires.fit c.loop-bound.bound-index none lt in
    let p0 = p.min in let p1 = p.order in let p2 = p.max in
    let i = c.loop-bound.invariant in let v = i.value in let a = i.least in let b = i.most in
    let f = c.from-sum.ensures in
    record {
      value = omega (arith, ints, d, p0, p1, p2, v, a, b, f, lt, few);
      least = omega (arith, ints, p0, p1, p2, a, b, f, lt, few);
      most = omega (arith, ints, p0, p1, p2, a, b, f, lt, few);
    }
