use Rattle.std.specs.Int.{w64, w128}
use Rattle.std.proofs.Common.{◌≡◌, ◌+◌, ℤ, pos, to_z, of_z, arith, sym, subst}
use Rattle.std.proofs.lemmas.Int.{ints, clamps}
use Rattle.lay_grid.specs.declared.needs.Need.{Need}
use Rattle.lay_grid.specs.Heights.{IsLowest}
use Rattle.lay_grid.proofs.HeightSteps.{HeightTo, height_more, height_last, height_fits, need_fits}
use Rattle.lay_grid.proofs.heights.row_height.Goals as goal

abbrev zero : Need
zero = record { row = 0; span = 0; room = pos 0 }

pub room_from_above-requires-clause-some : goal.room_from_above-requires-clause-some
room_from_above-requires-clause-some c =
    (need_fits c.args.r.now c.args.above.now c.args.needs.now c.loop-need.need-index zero c.requires.r c.requires.needs c.loop-need-test.true).0

pub overflow_sub-need : goal.overflow_sub-need
overflow_sub-need c =
    let f = need_fits c.args.r.now c.args.above.now c.args.needs.now c.loop-need.need-index zero c.requires.r c.requires.needs c.loop-need-test.true in
    let a = f.1.0 in let b = f.1.1 in let w = c.room_from_above.ensures.within in let u = w.0 in let v = w.1 in
    omega (arith, ints, a, b, u, v)

pub loop-need-preserved : goal.loop-need-preserved
loop-need-preserved c =
    let f = need_fits c.args.r.now c.args.above.now c.args.needs.now c.loop-need.need-index zero c.requires.r c.requires.needs c.loop-need-test.true in
    let a = f.1.0 in let b = f.1.1 in let w = c.room_from_above.ensures.within in let u = w.0 in let v = w.1 in
    let m = c.max-height.ensures.value in let r = c.room_from_above.ensures.value in
    let i = c.loop-need.invariant in
    let p = i.within.0 in let q = i.within.1 in
    let same : to_z w128 (of_z w128 c.max-height.result) ≡ c.max-height.result = omega (arith, ints) in
    let next = height_more c.args.r.now c.args.above.now c.args.needs.now c.loop-need.need-index zero _ c.max-height.result c.requires.needs
    c.loop-need-test.true (omega (arith, ints, clamps, a, b, u, v, m, r)) i.known in
    record {
      known = subst (λ (z : ℤ). HeightTo c.args.r.now c.args.above.now c.args.needs.now (c.loop-need.need-index + 1) z) (sym same) next;
      within = (omega (arith, ints, clamps, a, b, u, v, m, p, q), omega (arith, ints, clamps, a, b, u, v, m, p, q));
    }

pub returns-clause-lowest : goal.returns-clause-lowest
returns-clause-lowest c =
    let t = c.with_total.ensures in
    let low = height_last c.args.r.now c.args.above.now c.args.needs.now c.loop-need.need-index _ c.with_total.result c.requires.needs
    c.loop-need-test.false c.loop-need.invariant.known t in
    let at = height_fits c.args.r.now c.args.above.now c.with_total.result c.requires.r c.requires.above low c.requires.row in
    let a = at.0 in let b = at.1 in
    let same : to_z w64 (of_z w64 (to_z w128 (of_z w128 c.with_total.result))) ≡ c.with_total.result = omega (arith, ints, a, b) in
    subst (λ (z : ℤ). IsLowest c.args.r.now c.args.above.now z) (sym same) low

pub returns-clause-fits : goal.returns-clause-fits
returns-clause-fits c =
    let t = c.with_total.ensures in
    let low = height_last c.args.r.now c.args.above.now c.args.needs.now c.loop-need.need-index _ c.with_total.result c.requires.needs
    c.loop-need-test.false c.loop-need.invariant.known t in
    let at = height_fits c.args.r.now c.args.above.now c.with_total.result c.requires.r c.requires.above low c.requires.row in
    let a = at.0 in let b = at.1 in
    (omega (arith, ints, a, b), omega (arith, ints, a, b))

pub overflow_cast-result : goal.overflow_cast-result
overflow_cast-result c =
    let t = c.with_total.ensures in
    let low = height_last c.args.r.now c.args.above.now c.args.needs.now c.loop-need.need-index _ c.with_total.result c.requires.needs
    c.loop-need-test.false c.loop-need.invariant.known t in
    let at = height_fits c.args.r.now c.args.above.now c.with_total.result c.requires.r c.requires.above low c.requires.row in
    let a = at.0 in let b = at.1 in
    omega (arith, ints, a, b)
