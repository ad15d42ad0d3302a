use Rattle.std.proofs.Common.{ap, ◌≡◌, ◌+ℤ◌, ◌-ℤ◌, arith, refl, sym, ◌∙◌, subst, List, ℤ}
use Rattle.lay_floats.specs.declared.requests.SolidReq.{SolidReq}
use Rattle.lay_floats.specs.Fits.{SolidFits}
use Rattle.lay_floats.specs.SolidPlace.{IsSolidPlace}
use Rattle.lay_units.specs.declared.length.Unit.{Unit as Length}
use Rattle.lay_units.specs.Units.{IsNear}
use Rattle.lay_flow.specs.Blocks.Lengths.{length_at}
use Rattle.lay_flow.specs.Blocks.BlockFloats.{Spot, no_lines, solid_request, shape_at}
use Rattle.lay_flow.specs.Blocks.Weights.{weight}
use Rattle.lay_flow.specs.Pass.Known.{placing_of}
use Rattle.lay_flow.proofs.BlocksLemmas.BlockKinds.{solid_placed}
use Rattle.lay_flow.proofs.BlocksLemmas.FlowBoxFacts.{positive_solid, shape_fits, solid_flows}
use Rattle.lay_flow.proofs.PlacedOn.{pushed_on, counted, placed_count, placed_so_far}
use Rattle.lay_flow.proofs.BlocksLemmas.WeightFacts.{light_at}
use Rattle.lay_flow.proofs.SoFar.{Wrote}
use Rattle.lay_flow.proofs.WroteColumns.{wrote_extent, wrote_length}
use Rattle.lay_flow.proofs.PassFits.{mark_is_near}
use Rattle.lay_flow.proofs.PlaceSteps.{solid_fits, solid_near, knows_solid}
use Rattle.lay_flow.proofs.placement.place_solid.Goals as goal

pub fit_solid-place-requires : goal.fit_solid-place-requires
fit_solid-place-requires c =
    let within = c.args.of.now.at.within in let boxes = c.args.of.now.at.boxes.list.now in
    let shape = c.shape-shape.ensures in
    let mark = c.length_at-mark.ensures in
    let asked = c.solid_request.ensures ∙ (λ i. solid_request (shape i) (mark i)) in
    subst SolidFits (sym asked) (solid_fits (weight boxes c.args.of.now.at.k) _ _ (light_at boxes c.args.of.now.at.boxes.are c.args.of.now.at.k (omega (arith, within))) (shape_fits c.args.of.now.at.boxes.list.now c.args.of.now.at.boxes.are c.args.of.now.at.k within) (c.args.of.now.near c.args.of.now.at.k))

pub invariant_of-from : goal.invariant_of-from
invariant_of-from c =
    let within = c.args.of.now.at.within in let boxes = c.args.of.now.at.boxes.list.now in let k = c.args.of.now.at.k in
    record { near = subst IsNear (sym c.length_at-mark.ensures) (mark_is_near (weight boxes k) _ (light_at boxes c.args.of.now.at.boxes.are k (omega (arith, within))) (c.args.of.now.near k)) }

pub invariant_of-top : goal.invariant_of-top
invariant_of-top c =
    let within = c.args.of.now.at.within in let boxes = c.args.of.now.at.boxes.list.now in let k = c.args.of.now.at.k in
    let asked = c.solid_request.ensures ∙ (λ i. solid_request (c.shape-shape.ensures i) (c.length_at-mark.ensures i)) in
    let p = c.fit_solid-place.result in
    let stands = subst (λ (r : SolidReq). IsSolidPlace c.args.placing.now.floats r p.x.0 p.y.0) asked c.fit_solid-place.ensures in
    record {
      near = mark_is_near (weight boxes k) p.y.0 (light_at boxes c.args.of.now.at.boxes.are k (omega (arith, within)))
          (solid_near (weight boxes k) c.args.placing.now.floats (shape_at boxes k) (length_at c.args.of.now.marks.now k) p.x.0 p.y.0 (shape_fits boxes c.args.of.now.at.boxes.are k within) (c.args.of.now.near k) c.requires.known.to.within stands);
    }

pub returns-clause-placed : goal.returns-clause-placed
returns-clause-placed c places are was =
    let boxes = c.args.of.now.at.boxes.list.now in
    let within = c.args.of.now.at.within in
    let shape = c.shape-shape.ensures in
    let mark = c.length_at-mark.ensures in
    let asked = c.solid_request.ensures ∙ (λ i. solid_request (shape i) (mark i)) in
    let p = c.fit_solid-place.result in
    let old = c.args.placing.now in
    let stands = subst (λ (r : SolidReq). IsSolidPlace old.floats r p.x.0 p.y.0) asked c.fit_solid-place.ensures in
    let l = was.extents_length in
    let value : c.sum_of-extent.result.0 ≡ p.y.0 -ℤ length_at c.args.of.now.marks.now c.args.of.now.at.k +ℤ (shape_at c.args.of.now.at.boxes.list.now c.args.of.now.at.k).height.0 =
    ap (λ (v : Length). v.0) c.sum_of-extent.ensures ∙ ap (λ (v : Length). v.0 +ℤ c.shape-shape.result.height.0) c.below.ensures.value ∙ (λ i. p.y.0 -ℤ mark i +ℤ (shape i).height.0) in
    let wrote : Wrote length_at old.extents.items c.write_at.new.column.items c.args.of.now.at.k (p.y.0 -ℤ length_at c.args.of.now.marks.now c.args.of.now.at.k +ℤ (shape_at c.args.of.now.at.boxes.list.now c.args.of.now.at.k).height.0) =
    subst (λ (v : ℤ). Wrote length_at old.extents.items c.write_at.new.column.items c.args.of.now.at.k v) value
    (subst (λ (xs : List Length). Wrote length_at old.extents.items xs c.args.of.now.at.k c.sum_of-extent.result.0) (sym c.write_at.ensures) (wrote_length old.extents.items c.args.of.now.at.k c.sum_of-extent.result (omega (arith, within, l)))) in
    let push = c.in_ok-push_spot.ensures {u = tt} in
    let here : Spot = record { place = p; lines = no_lines } in
    let none = solid_flows c.args.of.now.at.boxes.list.now c.args.of.now.at.k c.requires.solid in
    pushed_on boxes c.args.of.now.marks.now old c.push_spot.new.placing places are here c.args.of.now.at.k c.requires.known push.places push.rows push.met
    (rw (push.extents, push.floats) (knows_solid boxes c.args.of.now.marks.now (placing_of old places) c.args.of.now.at.k (placed_so_far _ _ _ _ c.requires.known places was) here c.write_at.new.column.items
    (positive_solid boxes c.args.of.now.at.boxes.are.is_tree c.args.of.now.at.k c.requires.solid) none c.requires.solid (shape_fits boxes c.args.of.now.at.boxes.are c.args.of.now.at.k within) (c.args.of.now.near c.args.of.now.at.k) stands wrote refl))

pub returns-clause-count : goal.returns-clause-count
returns-clause-count c = counted c.args.placing.now.places.items _ _ c.args.of.now.at.k (placed_count _ _ _ _ c.requires.known) (c.in_ok-push_spot.ensures {u = tt}).places

pub returns-clause-kept : goal.returns-clause-kept
returns-clause-kept c =
    rw (c.in_ok-push_spot.ensures {u = tt}).extents (wrote_extent c.args.of.now.at.boxes.list.now c.args.of.now.at.k c.args.placing.now.extents.items _ _ (solid_placed _ c.requires.solid) c.write_at.ensures)
