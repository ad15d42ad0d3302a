use Rattle.std.proofs.Common.{◌+◌, arith, drop, refl, sym, ap, ◌∙◌}
use Rattle.lay_floats.specs.declared.requests.Place.{Place}
use Rattle.lay_flow.specs.Blocks.FlowPlaces.{corner_at}
use Rattle.lay_flow.specs.Blocks.FlowPlaces.{place_or}
use Rattle.lay_flow.proofs.BlocksLemmas.ChosenCorners.{drop_all, drop_one}
use Rattle.lay_flow.proofs.blocks.met_floats.write_all.Goals as goal

pub loop-i-init : goal.loop-i-init
loop-i-init c = (refl, λ k lt. refl)

pub loop-i-preserved : goal.loop-i-preserved
loop-i-preserved c =
    let inv = c.loop-i.invariant in
    let wrote = c.write_one.ensures in
    let l = inv.0 in
    (wrote.length_is ∙ l, λ k lt. ap (λ (p : Place). place_or p k (drop (c.loop-i.i + 1) c.args.places.now)) (wrote.each k (omega (arith, l, lt))) ∙ sym (drop_one k (corner_at c.loop-i.corners.items k) c.args.places.now c.loop-i.i _ c.loop-i-test.true) ∙ inv.1 k lt)

pub returns-clause-each : goal.returns-clause-each
returns-clause-each c k lt = sym (drop_all k (corner_at c.loop-i.corners.items k) c.args.places.now c.loop-i.i c.loop-i-test.false) ∙ c.loop-i.invariant.1 k lt
