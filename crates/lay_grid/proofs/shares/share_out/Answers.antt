use Rattle.std.specs.Int.{w64, w128, int_max}
use Rattle.std.proofs.Common.{◌≡◌, arith, sym, subst, List, Bool, get_or, None, ℤ, ◌++◌, ◌∷◌, [], pos, ◌-ℤ◌, ◌+◌, ◌/◌, to_z, of_z}
use Rattle.std.proofs.lemmas.Int.{ints, clamps}
use Rattle.lay_units.specs.declared.length.Unit.{Unit}
use Rattle.lay_grid.specs.Shares.{AreShared, sum_own}
use Rattle.lay_grid.specs.Pass.Sharing.{SharedTo}
use Rattle.lay_grid.proofs.SharedSteps.{Step, shared_more}
use Rattle.lay_grid.proofs.SharesExist.{width_fits, shared_end}
use Rattle.lay_grid.proofs.shares.share_out.Goals as goal

abbrev unit : ℤ → Unit
unit width = record { 0 = width }

pub overflow_cast-width : goal.overflow_cast-width
overflow_cast-width c =
    let a = c.widened-width.ensures in
    let b = c.left_over-more.ensures in
    let all = c.all_have_own-all.ensures in
    let step = subst (λ (x : Bool). Step x (get_or c.args.owns.now c.loop-own.own-index None) (c.rest_of-rest.result / c.takers_of-takers.result)
    c.loop-own.more c.left_over-more.result (unit c.widened-width.result)) all
    (record { kept = λ t. (a.kept t, b.kept t); greater = λ t s. (a.greater t s, b.less t s); lesser = λ t z. (a.lesser t z, b.none t z) }) in
    let w = c.rest_of-rest.ensures.value in let x = c.requires.asked.0 in let y = c.requires.asked.1 in
    let v : pos c.rest_of-rest.result ≡ int_max (pos 0) (c.args.asked -ℤ sum_own c.args.owns.now) = omega (arith, ints, clamps, w, x, y) in
    let at = width_fits c.args.owns.now c.args.asked c.rest_of-rest.result _ c.loop-own.more c.left_over-more.result c.loop-own.own-index
    c.loop-own.widths.items (unit c.widened-width.result) c.requires.widths v c.loop-own-test.true step c.loop-own.invariant in
    let p = at.0 in let q = at.1 in
    omega (arith, ints, p, q)

pub loop-own-preserved : goal.loop-own-preserved
loop-own-preserved c =
    let a = c.widened-width.ensures in
    let b = c.left_over-more.ensures in
    let all = c.all_have_own-all.ensures in
    let step = subst (λ (x : Bool). Step x (get_or c.args.owns.now c.loop-own.own-index None) (c.rest_of-rest.result / c.takers_of-takers.result)
    c.loop-own.more c.left_over-more.result (unit c.widened-width.result)) all
    (record { kept = λ t. (a.kept t, b.kept t); greater = λ t s. (a.greater t s, b.less t s); lesser = λ t z. (a.lesser t z, b.none t z) }) in
    let w = c.rest_of-rest.ensures.value in let x = c.requires.asked.0 in let y = c.requires.asked.1 in
    let v : pos c.rest_of-rest.result ≡ int_max (pos 0) (c.args.asked -ℤ sum_own c.args.owns.now) = omega (arith, ints, clamps, w, x, y) in
    let at = width_fits c.args.owns.now c.args.asked c.rest_of-rest.result _ c.loop-own.more c.left_over-more.result c.loop-own.own-index
    c.loop-own.widths.items (unit c.widened-width.result) c.requires.widths v c.loop-own-test.true step c.loop-own.invariant in
    let p = at.0 in let q = at.1 in
    let same : to_z w64 (of_z w64 (to_z w128 (of_z w128 c.widened-width.result))) ≡ c.widened-width.result = omega (arith, ints, p, q) in
    subst (λ (ws : List Unit). SharedTo c.args.owns.now c.rest_of-rest.result (c.rest_of-rest.result / c.takers_of-takers.result)
    c.left_over-more.result (c.loop-own.own-index + 1) ws) (sym (c.in_ok-push.ensures {u = tt}).items)
    (subst (λ (z : ℤ). SharedTo c.args.owns.now c.rest_of-rest.result (c.rest_of-rest.result / c.takers_of-takers.result) c.left_over-more.result
    (c.loop-own.own-index + 1) (c.loop-own.widths.items ++ unit z ∷ [])) (sym same)
    (shared_more c.args.owns.now c.rest_of-rest.result _ _ _ _ _ (unit c.widened-width.result) c.loop-own.invariant c.loop-own-test.true step))

pub returns : goal.returns
returns c =
    let w = c.rest_of-rest.ensures.value in let x = c.requires.asked.0 in let y = c.requires.asked.1 in
    let v : pos c.rest_of-rest.result ≡ int_max (pos 0) (c.args.asked -ℤ sum_own c.args.owns.now) = omega (arith, ints, clamps, w, x, y) in
    let all = shared_end c.args.owns.now c.args.asked c.rest_of-rest.result _ _ c.loop-own.own-index _ v c.loop-own-test.false
    c.loop-own.auto.own-index-end c.loop-own.invariant in
    subst (λ (ws : List Unit). AreShared c.args.owns.now c.args.asked ws) (sym c.new-2.ensures) all
