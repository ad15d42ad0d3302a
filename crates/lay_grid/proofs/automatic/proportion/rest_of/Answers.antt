use Rattle.std.proofs.Common.{ap, pos, ◌+◌, arith}
use Rattle.std.proofs.lemmas.Int.{ints}
use Rattle.std.proofs.lemmas.List.{drop_more}
use Rattle.lay_grid.specs.declared.automatic.bounds.Bound.{Bound}
use Rattle.lay_grid.specs.Automatic.AutoColumns.{sum_min}
use Rattle.lay_grid.proofs.AutomaticLemmas.ShareSteps.{minimums_up_from}
use Rattle.lay_grid.proofs.automatic.proportion.rest_of.Goals as goal

abbrev none : Bound
none = record { min = record { 0 = pos 0 }; max = record { 0 = pos 0 } }

pub loop-bound-preserved : goal.loop-bound-preserved
loop-bound-preserved c =
    let lt = c.loop-bound-test.true in let s = c.requires.space.least in let t = c.requires.space.most in
    let d = ap sum_min (drop_more c.args.bounds.now c.loop-bound.bound-index none lt) in
    let u = minimums_up_from c.args.bounds.now (c.loop-bound.bound-index + 1) c.requires.space.order in
    let p = c.requires.space.order c.loop-bound.bound-index none lt in
    let p0 = p.min in let p1 = p.order in let p2 = p.max in
    let i = c.loop-bound.invariant in let v = i.value in let m = i.most in
    record {
      value = omega (arith, ints, d, u, p0, p1, p2, v, m, s, t);
      most = omega (arith, ints, d, u, p0, p1, p2, v, m, s, t);
    }

pub overflow_sub-rest : goal.overflow_sub-rest
overflow_sub-rest c =
    let lt = c.loop-bound-test.true in let s = c.requires.space.least in let t = c.requires.space.most in
    let d = ap sum_min (drop_more c.args.bounds.now c.loop-bound.bound-index none lt) in
    let u = minimums_up_from c.args.bounds.now (c.loop-bound.bound-index + 1) c.requires.space.order in
    let p = c.requires.space.order c.loop-bound.bound-index none lt in
    let p0 = p.min in let p1 = p.order in let p2 = p.max in
    let i = c.loop-bound.invariant in let v = i.value in let m = i.most in
    omega (arith, ints, d, u, p0, p1, p2, v, m, s, t)
