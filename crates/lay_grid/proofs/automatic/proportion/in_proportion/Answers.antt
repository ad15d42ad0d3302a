use Rattle.std.proofs.Common.{pos, List, sym, subst, arith}
use Rattle.std.proofs.lemmas.Int.{ints}
use Rattle.lay_units.specs.declared.length.Unit.{Unit}
use Rattle.lay_grid.specs.declared.automatic.bounds.Bound.{Bound}
use Rattle.lay_grid.specs.Automatic.Bounds.{bound_at}
use Rattle.lay_grid.specs.Automatic.AutoColumns.{AreInProportion}
use Rattle.lay_grid.proofs.AutomaticLemmas.ShareSteps.{most_up, room_below, shared_begins, shared_end, shared_pushed}
use Rattle.lay_grid.proofs.automatic.proportion.in_proportion.Goals as goal

abbrev none : Bound
none = record { min = record { 0 = pos 0 }; max = record { 0 = pos 0 } }

pub loop-bound-init : goal.loop-bound-init
loop-bound-init c = shared_begins c.args.bounds.now c.args.space.0 c.rest_of-rest.result c.rooms_of-rooms.result c.shares.result
    c.new-widths.result.items c.rest_of-rest.ensures.value c.rooms_of-rooms.ensures.value c.shares.ensures.value c.new-widths.ensures.items
    c.requires.space.least c.requires.within

pub share-requires-clause-room : goal.share-requires-clause-room
share-requires-clause-room c =
    let h = room_below c.args.bounds.now c.loop-bound.bound-index none c.loop-bound-test.true in
    let e = c.rooms_of-rooms.ensures.value in
    omega (arith, h, e)

pub overflow_add-bound : goal.overflow_add-bound
overflow_add-bound c =
    let p = c.requires.space.order c.loop-bound.bound-index none c.loop-bound-test.true in
    let p0 = p.min in let p1 = p.order in let p2 = p.max in
    let s = c.share.ensures.most in let r = c.rest_of-rest.ensures.below in
    let u = c.min-unit.ensures in let m = c.most.ensures in let o = most_up (bound_at c.args.bounds.now c.loop-bound.bound-index) in
    omega (arith, ints, p0, p1, p2, s, r, u, m, o)

pub loop-bound-preserved : goal.loop-bound-preserved
loop-bound-preserved c =
    let p = c.requires.space.order c.loop-bound.bound-index none c.loop-bound-test.true in
    let p0 = p.min in let p1 = p.order in let p2 = p.max in
    let s = c.share.ensures.most in let r = c.rest_of-rest.ensures.below in
    let u = c.min-unit.ensures in let m = c.most.ensures in let o = most_up (bound_at c.args.bounds.now c.loop-bound.bound-index) in
    shared_pushed c.args.bounds.now c.args.space.0 c.rest_of-rest.result c.rooms_of-rooms.result c.share.result c.loop-bound.more
    c.min-unit.result c.loop-bound.bound-index c.loop-bound.widths.items _ _ c.rest_of-rest.ensures.value c.rooms_of-rooms.ensures.value
    c.share.ensures.value (c.in_ok-push.ensures {u = tt}).items c.loop-bound-test.true (omega (arith, u, m))
    (omega (arith, ints, p0, p1, p2, s, r, u, m, o)) c.loop-bound.invariant

pub returns : goal.returns
returns c = subst (λ (ws : List Unit). AreInProportion c.args.bounds.now c.args.space.0 ws) (sym c.new.ensures)
    (shared_end c.args.bounds.now c.args.space.0 c.loop-bound.more c.loop-bound.bound-index c.loop-bound.widths.items c.loop-bound-test.false
    c.loop-bound.auto.bound-index-end c.loop-bound.invariant)
