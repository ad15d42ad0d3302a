use Rattle.std.proofs.Common.{pos, length, arith}
use Rattle.std.proofs.lemmas.Int.{ints}
use Rattle.std.proofs.Math.Nat.{div-le_self}
use Rattle.lay_grid.specs.declared.automatic.bounds.Bound.{Bound}
use Rattle.lay_grid.proofs.AutomaticLemmas.ShareSteps.{beyond_pushed, maximums_up}
use Rattle.lay_grid.proofs.AutomaticLemmas.SpreadSteps.{part_least}
use Rattle.lay_grid.proofs.automatic.columns.beyond_maximums.Goals as goal

abbrev none : Bound
none = record { min = record { 0 = pos 0 }; max = record { 0 = pos 0 } }

pub part-requires : goal.part-requires
part-requires c =
    let m = maximums_up c.args.bounds.now c.requires.space.order in let r = c.requires.rest in let t = c.requires.space.most in
    let d = div-le_self c.args.rest (length c.args.bounds.now) in
    omega (arith, ints, m, r, t, d)

pub overflow_cast-part : goal.overflow_cast-part
overflow_cast-part c =
    let m = maximums_up c.args.bounds.now c.requires.space.order in let r = c.requires.rest in let t = c.requires.space.most in
    let lt = c.loop-k-test.true in let e = c.part.ensures in
    let l = part_least c.args.rest (length c.args.bounds.now) c.loop-k.k (omega (arith, lt)) in
    omega (arith, ints, m, r, t, e, l)

pub overflow_add-bounds : goal.overflow_add-bounds
overflow_add-bounds c =
    let m = maximums_up c.args.bounds.now c.requires.space.order in let r = c.requires.rest in let t = c.requires.space.most in
    let lt = c.loop-k-test.true in let e = c.part.ensures in
    let l = part_least c.args.rest (length c.args.bounds.now) c.loop-k.k (omega (arith, lt)) in
    let p = c.requires.space.order c.loop-k.k none lt in let p0 = p.min in let p1 = p.order in let p2 = p.max in
    omega (arith, ints, m, r, t, e, l, p0, p1, p2)

pub loop-k-preserved : goal.loop-k-preserved
loop-k-preserved c =
    let m = maximums_up c.args.bounds.now c.requires.space.order in let r = c.requires.rest in let t = c.requires.space.most in
    let lt = c.loop-k-test.true in let e = c.part.ensures in
    let l = part_least c.args.rest (length c.args.bounds.now) c.loop-k.k (omega (arith, lt)) in
    let p = c.requires.space.order c.loop-k.k none lt in let p0 = p.min in let p1 = p.order in let p2 = p.max in
    let h = beyond_pushed c.args.bounds.now c.args.rest c.loop-k.k c.loop-k.widths.items _ _ (c.in_ok-push.ensures {u = tt}).items
    (omega (arith, ints, m, r, t, e, l, p0, p1, p2)) (c.loop-k.invariant.as_many, c.loop-k.invariant.each) in
    record { as_many = h.0; each = h.1 }
