use Rattle.std.proofs.Common.{ap, pos, arith}
use Rattle.std.proofs.lemmas.List.{drop_more}
use Rattle.lay_grid.specs.declared.automatic.bounds.Bound.{Bound}
use Rattle.lay_grid.specs.Automatic.AutoColumns.{sum_room}
use Rattle.lay_grid.proofs.automatic.proportion.rooms_of.Goals as goal

abbrev none : Bound
none = record { min = record { 0 = pos 0 }; max = record { 0 = pos 0 } }

pub loop-bound-preserved : goal.loop-bound-preserved
loop-bound-preserved c =
    let lt = c.loop-bound-test.true in let few = c.requires.few in
    let d = ap sum_room (drop_more c.args.bounds.now c.loop-bound.bound-index none lt) in
    let r = c.room_of.ensures.value in let b = c.room_of.ensures.below in
    let i = c.loop-bound.invariant in let v = i.value in let m = i.most in
    let f = c.from-rooms.ensures in
    record {
      value = omega (arith, d, r, b, v, m, f, lt, few);
      most = omega (arith, r, b, m, f, lt, few);
    }
