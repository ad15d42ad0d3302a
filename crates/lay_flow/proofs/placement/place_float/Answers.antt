use Rattle.std.proofs.Common.{◌≡◌, arith, refl, sym, ap, ◌∙◌, subst, false}
use Rattle.lay_floats.specs.declared.requests.FloatReq.{FloatReq}
use Rattle.lay_floats.specs.Fits.{BoxFits, RequestFits}
use Rattle.lay_floats.specs.FloatPlace.{IsFloatPlace, placed_at}
use Rattle.lay_flow.specs.declared.blocks.block.Block.{Block}
use Rattle.lay_flow.specs.Blocks.BlockFloats.{Spot, float_request, no_lines}
use Rattle.lay_flow.specs.Blocks.BlockPositions.{is_placed}
use Rattle.lay_flow.specs.Blocks.MarginRuns.{block_at}
use Rattle.lay_flow.specs.Blocks.Weights.{weight}
use Rattle.lay_flow.specs.Pass.Placed.{IsCeilingNear}
use Rattle.lay_flow.specs.Pass.Known.{placing_of}
use Rattle.lay_flow.proofs.BlocksLemmas.FlowBoxFacts.{float_block, positive_float, shape_fits}
use Rattle.lay_flow.proofs.PlaceSteps.{box_fits, request_fits, knows_float}
use Rattle.lay_flow.proofs.PlacedOn.{pushed_on, counted, placed_count, placed_so_far}
use Rattle.lay_flow.proofs.BlocksLemmas.WeightFacts.{light_at}
use Rattle.lay_flow.proofs.placement.place_float.Goals as goal

pub ceiling-top-requires : goal.ceiling-top-requires
ceiling-top-requires c = positive_float c.args.of.now.at.boxes.list.now c.args.of.now.at.boxes.are.is_tree c.args.of.now.at.k c.args.side c.requires.float

pub place-requires-clause-request : goal.place-requires-clause-request
place-requires-clause-request c =
    let within = c.args.of.now.at.within in
    let boxes = c.args.of.now.at.boxes.list.now in
    let top = c.ceiling-top.ensures.value in
    let shape = c.shape.ensures in
    let asked = c.float_request-request.ensures ∙ (λ i. float_request (shape i) c.args.side (top i)) in
    let near = subst (IsCeilingNear (weight boxes c.args.of.now.at.k)) top c.ceiling-top.ensures.near in
    subst RequestFits (sym asked) (request_fits (weight boxes c.args.of.now.at.k) _ c.args.side _ (light_at boxes c.args.of.now.at.boxes.are c.args.of.now.at.k (omega (arith, within))) (shape_fits boxes c.args.of.now.at.boxes.are c.args.of.now.at.k within) near)

pub place-requires-clause-place : goal.place-requires-clause-place
place-requires-clause-place c x y place =
    let within = c.args.of.now.at.within in
    let boxes = c.args.of.now.at.boxes.list.now in
    let top = c.ceiling-top.ensures.value in
    let shape = c.shape.ensures in
    let asked = c.float_request-request.ensures ∙ (λ i. float_request (shape i) c.args.side (top i)) in
    let near = subst (IsCeilingNear (weight boxes c.args.of.now.at.k)) top c.ceiling-top.ensures.near in
    subst (λ (r : FloatReq). BoxFits (placed_at r x y)) (sym asked)
    (box_fits (weight boxes c.args.of.now.at.k) c.args.placing.now.floats _ c.args.side _ x y (light_at boxes c.args.of.now.at.boxes.are c.args.of.now.at.k (omega (arith, within))) (shape_fits boxes c.args.of.now.at.boxes.are c.args.of.now.at.k within) near c.requires.known.to.within
    (subst (λ (r : FloatReq). IsFloatPlace c.args.placing.now.floats r x y) asked place))

pub returns-clause-placed : goal.returns-clause-placed
returns-clause-placed c places are was =
    let within = c.args.of.now.at.within in
    let boxes = c.args.of.now.at.boxes.list.now in
    let top = c.ceiling-top.ensures.value in
    let shape = c.shape.ensures in
    let asked = c.float_request-request.ensures ∙ (λ i. float_request (shape i) c.args.side (top i)) in
    let near = subst (IsCeilingNear (weight boxes c.args.of.now.at.k)) top c.ceiling-top.ensures.near in
    let put = c.in_ok-place.ensures {u = tt} in
    let p = c.in_ok-place.place in
    let here : Spot = record { place = p; lines = no_lines } in
    let stands = subst (λ (r : FloatReq). IsFloatPlace c.args.placing.now.floats r p.x.0 p.y.0) asked put.place in
    let floats = rw asked at put.placed in
    let push = c.in_ok-push_spot.ensures {u = tt} in
    let flow : is_placed (block_at boxes c.args.of.now.at.k).inside ≡ false = ap (λ (b : Block). is_placed b.inside) (float_block boxes c.args.of.now.at.k c.args.side c.requires.float) in
    pushed_on boxes c.args.of.now.marks.now c.args.placing.now c.push_spot.new.placing places are here c.args.of.now.at.k c.requires.known push.places push.rows push.met
    (rw (push.extents, push.floats) (knows_float boxes c.args.of.now.marks.now (placing_of c.args.placing.now places) c.args.of.now.at.k (placed_so_far _ _ _ _ c.requires.known places was) here c.args.side c.place.new.self
    (positive_float boxes c.args.of.now.at.boxes.are.is_tree c.args.of.now.at.k c.args.side c.requires.float) c.requires.float flow (shape_fits boxes c.args.of.now.at.boxes.are c.args.of.now.at.k within) near stands floats refl))

pub returns-clause-count : goal.returns-clause-count
returns-clause-count c = counted c.args.placing.now.places.items _ _ c.args.of.now.at.k (placed_count _ _ _ _ c.requires.known) (c.in_ok-push_spot.ensures {u = tt}).places
