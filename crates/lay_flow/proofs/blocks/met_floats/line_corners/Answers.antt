use Rattle.std.proofs.Common.{◌≡◌, ◌+◌, arith, drop, length, replicate, sym, ap, ◌∙◌, List}
use Rattle.std.proofs.lemmas.List.{length-replicate}
use Rattle.lay_floats.specs.declared.requests.Place.{Place}
use Rattle.lay_floats.specs.declared.requests.NodePlace.{NodePlace}
use Rattle.lay_flow.specs.Blocks.BlockFloats.{no_place}
use Rattle.lay_flow.specs.Blocks.FlowPlaces.{place_or}
use Rattle.lay_flow.specs.Blocks.FlowPlaces.{corner_at, joined}
use Rattle.lay_flow.proofs.BlocksLemmas.ChosenCorners.{drop_list, drop_lists, none_at}
use Rattle.lay_flow.proofs.blocks.met_floats.line_corners.Goals as goal

pub loop-k-init : goal.loop-k-init
loop-k-init c =
    let made : c.in_ok-corners.corners.items ≡ replicate c.args.count no_place = c.in_ok-corners.ensures.items_if_clones_equal (λ y e. e) in
    (ap length made ∙ length-replicate c.args.count no_place, λ k lt. ap (λ (ps : List Place). place_or (corner_at ps k) k (joined c.args.met.now)) made ∙ ap (λ (p : Place). place_or p k (joined c.args.met.now)) (none_at c.args.count k))

pub loop-k-preserved : goal.loop-k-preserved
loop-k-preserved c =
    let inv = c.loop-k.invariant in
    let wrote = c.write_all.ensures in
    let l = inv.0 in
    (wrote.length_is ∙ l, λ k lt. ap (λ (p : Place). place_or p k (joined (drop (c.loop-k.k + 1) c.args.met.now))) (wrote.each k (omega (arith, l, lt)) ∙ ap (λ (ps : List NodePlace). place_or (corner_at c.loop-k.corners.items k) k ps) (c.as_slice.ensures ∙ c.index-met-k.is)) ∙ sym (drop_list k (corner_at c.loop-k.corners.items k) c.args.met.now c.loop-k.k c.index-met-k.result c.loop-k-test.true) ∙ inv.1 k lt)

pub returns : goal.returns
returns c = record {
  length_is = c.loop-k.invariant.0;
  each = λ k lt. sym (drop_lists k (corner_at c.loop-k.corners.items k) c.args.met.now c.loop-k.k c.loop-k-test.false) ∙ c.loop-k.invariant.1 k lt;
}
