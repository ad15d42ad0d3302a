use Rattle.std.proofs.Common.{ap, pos, arith}
use Rattle.std.proofs.lemmas.List.{drop_all, drop_more}
use Rattle.lay_grid.specs.declared.automatic.bounds.Bound.{Bound}
use Rattle.lay_grid.specs.Automatic.Pass.Steps.{sum_shares}
use Rattle.lay_grid.proofs.AutomaticLemmas.ShareSteps.{room_below, shares_most}
use Rattle.lay_grid.proofs.automatic.proportion.shares.Goals as goal

abbrev none : Bound
none = record { min = record { 0 = pos 0 }; max = record { 0 = pos 0 } }

pub share-sum-requires-clause-room : goal.share-sum-requires-clause-room
share-sum-requires-clause-room c =
    let h = room_below c.args.bounds.now c.loop-bound.bound-index none c.loop-bound-test.true in
    let e = c.requires.rooms in
    omega (arith, h, e)

pub overflow_add-sum : goal.overflow_add-sum
overflow_add-sum c =
    let lt = c.loop-bound-test.true in let r = c.requires.rest in
    let d = ap (sum_shares c.args.rest c.args.rooms) (drop_more c.args.bounds.now c.loop-bound.bound-index none lt) in
    let m = shares_most c.args.rest c.args.rooms c.args.bounds.now c.requires.rooms in
    let v = c.share-sum.ensures.value in
    let i = c.loop-bound.invariant in
    omega (arith, r, d, m, v, i)

pub loop-bound-preserved : goal.loop-bound-preserved
loop-bound-preserved c =
    let lt = c.loop-bound-test.true in let r = c.requires.rest in
    let d = ap (sum_shares c.args.rest c.args.rooms) (drop_more c.args.bounds.now c.loop-bound.bound-index none lt) in
    let m = shares_most c.args.rest c.args.rooms c.args.bounds.now c.requires.rooms in
    let v = c.share-sum.ensures.value in
    let i = c.loop-bound.invariant in
    omega (arith, r, d, m, v, i)

pub returns-clause-most : goal.returns-clause-most
returns-clause-most c =
    let d = ap (sum_shares c.args.rest c.args.rooms) (drop_all c.loop-bound.bound-index c.args.bounds.now c.loop-bound-test.false) in
    let m = shares_most c.args.rest c.args.rooms c.args.bounds.now c.requires.rooms in
    let i = c.loop-bound.invariant in
    omega (arith, d, m, i)
