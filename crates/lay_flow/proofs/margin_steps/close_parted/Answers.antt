use Rattle.std.proofs.Common.{◌≡◌, ◌<◌, ℕ, false, arith, subst, sym, List, ap, ◌∙◌, length, refl}
use Rattle.lay_units.specs.Units.{IsPosition, IsBoxSize, IsNear}
use Rattle.lay_units.specs.declared.length.Unit.{Unit as Length}
use Rattle.lay_flow.specs.declared.blocks.block.Block.{Block}
use Rattle.lay_flow.specs.Blocks.Lengths.{length_at}
use Rattle.lay_flow.specs.Blocks.BlockSizes.{IsLineDepth}
use Rattle.lay_flow.specs.Blocks.BlockPositions.{is_solid}
use Rattle.lay_flow.specs.Blocks.MarginRuns.{block_at}
use Rattle.lay_flow.specs.Pass.Bounds.{state_of, IsMarkNear}
use Rattle.lay_flow.specs.Blocks.Boxes.{parent_at}
use Rattle.lay_flow.specs.Pass.Known.{placing_of}
use Rattle.lay_flow.specs.declared.pass.RunStart.TheVariants.{At as starts_at}
use Rattle.lay_flow.proofs.BlocksLemmas.WeightFacts.{light_at}
use Rattle.lay_flow.specs.Blocks.Weights.{weight}
use Rattle.lay_flow.proofs.SoFar.{Wrote}
use Rattle.lay_flow.proofs.PassFits.{begins_near, mark_is_near, marks_near, end_is_near, box_height_position, extent_position}
use Rattle.lay_flow.proofs.PassSteps.{knows_parted}
use Rattle.lay_flow.specs.Pass.Known.{ArePlacedOn, IsKnown}
use Rattle.lay_flow.proofs.PlacedOn.{known_placed, line_depth, known_placed_on, places_count, within_extents, placed_to}
use Rattle.lay_flow.specs.Pass.Knows.{AreExtentsKept}
use Rattle.lay_flow.proofs.RunReach.{RunEnds}
use Rattle.lay_flow.proofs.BlocksLemmas.Truths.{true_or}
use Rattle.lay_flow.proofs.WroteColumns.{wrote_length}
use Rattle.lay_flow.proofs.margin_steps.close_parted.Goals as goal

pub end_of-end-requires : goal.end_of-end-requires
end_of-end-requires c =
    begins_near c.args.ending.now.at.boxes.list.now c.args.ending.now.at.boxes.are (state_of c.args.flow.now) _ _ c.requires.known.knows.fits

pub invariant_of-marked-clause-near : goal.invariant_of-marked-clause-near
invariant_of-marked-clause-near c =
    let f = c.requires.known.knows.fits in
    let settles = rw c.deref.ensures.value at c.settle.ensures in
    let near = marks_near c.args.ending.now.at.boxes.list.now c.args.ending.now.at.boxes.are.is_tree.tree (state_of c.args.flow.now) _ _ f c.end_of-end.result.0 c.end_of-end.ensures.near c.args.ending.now.next f.within _ settles in
    subst (λ (xs : List Length). (j : ℕ) → IsMarkNear (weight c.args.ending.now.at.boxes.list.now j) (length_at xs j)) (sym c.deref-2.ensures.value) near

pub place_up_to-requires-clause-known : goal.place_up_to-requires-clause-known
place_up_to-requires-clause-known c =
    let settles = rw c.deref.ensures.value at c.settle.ensures in
    known_placed c.args.ending.now.at.boxes.list.now c.args.ending.now.at.boxes.are.is_tree.tree c.args.flow.now _ _ c.requires.known _ (λ j lt. rw c.deref-2.ensures.value (settles.before j lt))

pub invariant_of-standing-clause-near : goal.invariant_of-standing-clause-near
invariant_of-standing-clause-near c =
    let f = c.requires.known.knows.fits in let a = f.parent in let b = f.within in
    let e = rw c.deref-3.ensures.value at c.length_at-mark.ensures in
    let settles = rw c.deref.ensures.value at c.settle.ensures in
    let near = marks_near c.args.ending.now.at.boxes.list.now c.args.ending.now.at.boxes.are.is_tree.tree (state_of c.args.flow.now) _ _ f c.end_of-end.result.0 c.end_of-end.ensures.near c.args.ending.now.next f.within _ settles c.args.ending.now.at.k in
    subst IsNear (sym e) (mark_is_near (weight c.args.ending.now.at.boxes.list.now c.args.ending.now.at.k) _ (light_at c.args.ending.now.at.boxes.list.now c.args.ending.now.at.boxes.are c.args.ending.now.at.k (omega (arith, a, b))) near)

pub invariant_of-height_to_margin : goal.invariant_of-height_to_margin
invariant_of-height_to_margin c =
    let boxes = c.args.ending.now.at.boxes in
    record { near = end_is_near boxes.list.now boxes.are.is_tree.tree (state_of c.args.flow.now) _ _ c.requires.known.knows.fits c.end_of-end.result.0 c.end_of-end.ensures.near boxes.are }

pub invariant_of-standing-clause-lines : goal.invariant_of-standing-clause-lines
invariant_of-standing-clause-lines c lines =
    let f = c.requires.known.knows.fits in let a = f.parent in let b = f.within in
    let old = c.args.flow.now in
    let done = c.in_ok-place_up_to.ensures {u = tt} in
    let there = known_placed_on c.args.ending.now.at.boxes.list.now c.args.ending.now.at.boxes.are.is_tree.tree c.args.flow.now _ _ c.requires.known c.settle.new.marks.items (rw c.deref.ensures.value at c.settle.ensures).before c.place_up_to.new.placing (rw c.deref-2.ensures.value at done.placed) in
    let go : ArePlacedOn c.args.ending.now.at.boxes.list.now c.settle.new.marks.items c.place_up_to.new.placing c.requires.known.places → IsLineDepth c.length_at-mark.result.0 c.args.ending.now.block.now.edge_top.0 c.length_at.result.0 = λ goes.
    let block = c.args.ending.now.is in
    let marked = rw c.deref-3.ensures.value at c.length_at-mark.ensures in
    let depth = rw c.deref-4.ensures.value at c.length_at.ensures in
    let there = rw block at lines in
    rw (block, depth, marked) (line_depth c.args.ending.now.at.boxes.list.now c.args.ending.now.at.boxes.are c.settle.new.marks.items (placing_of c.place_up_to.new.placing goes.places) c.args.ending.now.next (placed_to _ _ _ _ goes _ done.count) c.args.ending.now.at.k a b there) in
    go there

pub bottom-start-requires : goal.bottom-start-requires
bottom-start-requires c =
    let f = c.requires.known.knows.fits in let a = f.parent in let b = f.within in
    let p = c.args.ending.now.at.k in
    let block = c.args.ending.now.is in
    let settles = rw c.deref.ensures.value at c.settle.ensures in
    let near = marks_near c.args.ending.now.at.boxes.list.now c.args.ending.now.at.boxes.are.is_tree.tree (state_of c.args.flow.now) _ _ f c.end_of-end.result.0 c.end_of-end.ensures.near c.args.ending.now.next f.within _ settles p in
    let light_p = light_at c.args.ending.now.at.boxes.list.now c.args.ending.now.at.boxes.are p (omega (arith, a, b)) in
    let light_m = light_at c.args.ending.now.at.boxes.list.now c.args.ending.now.at.boxes.are c.args.ending.now.next b in
    let old = c.args.flow.now in
    let done = c.in_ok-place_up_to.ensures {u = tt} in
    let there = known_placed_on c.args.ending.now.at.boxes.list.now c.args.ending.now.at.boxes.are.is_tree.tree c.args.flow.now _ _ c.requires.known c.settle.new.marks.items (rw c.deref.ensures.value at c.settle.ensures).before c.place_up_to.new.placing (rw c.deref-2.ensures.value at done.placed) in
    (λ (goes : ArePlacedOn c.args.ending.now.at.boxes.list.now c.settle.new.marks.items c.place_up_to.new.placing c.requires.known.places).
    let placed = placed_to _ _ _ _ goes _ done.count in
    let extent = rw c.deref-4.ensures.value at c.length_at.ensures in
    let height = rw (block, extent) at c.height_to_margin-height.ensures.value in
    true_or (is_solid (block_at c.args.ending.now.at.boxes.list.now p).inside) (IsPosition c.height_to_margin-height.result.0)
    (λ solid. let low = placed.low p c.args.ending.now.positive f.parent solid in
    let h : c.height_to_margin-height.result.0 ≡ length_at c.place_up_to.new.placing.extents.items p = height ∙ rw solid refl in
    subst IsPosition (sym h) (extent_position (weight c.args.ending.now.at.boxes.list.now c.args.ending.now.next) _ _ light_m (mark_is_near (weight c.args.ending.now.at.boxes.list.now p) _ light_p near) low.0 low.1))
    (λ flow. box_height_position c.height_to_margin-height.result.0 (c.height_to_margin-height.ensures.size (subst (λ (b : Block). is_solid b.inside ≡ false) (sym block) flow)))) there

pub returns : goal.returns
returns c =
    let f = c.requires.known.knows.fits in let a = f.parent in let b = f.within in let l = f.heights_length in
    let block = c.args.ending.now.is in
    let holds = rw block at c.lone_margin-flow.ensures in
    let p = c.args.ending.now.at.k in
    let old = c.args.flow.now in
    let marked = rw c.deref-3.ensures.value at c.length_at-mark.ensures in
    let settles = rw c.deref.ensures.value at c.settle.ensures in
    let old = c.args.flow.now in
    let done = c.in_ok-place_up_to.ensures {u = tt} in
    let there = known_placed_on c.args.ending.now.at.boxes.list.now c.args.ending.now.at.boxes.are.is_tree.tree c.args.flow.now _ _ c.requires.known c.settle.new.marks.items (rw c.deref.ensures.value at c.settle.ensures).before c.place_up_to.new.placing (rw c.deref-2.ensures.value at done.placed) in
    let go : ArePlacedOn c.args.ending.now.at.boxes.list.now c.settle.new.marks.items c.place_up_to.new.placing c.requires.known.places → IsKnown c.args.ending.now.at.boxes.list.now (record c.args.flow.now { marks = c.settle.new.marks; heights = c.write_at.new.column; start = starts_at c.bottom-start.result; strut = c.lone_margin-flow.result; first = c.args.ending.now.next; placing = c.place_up_to.new.placing }) (parent_at c.args.ending.now.at.boxes.list.now c.args.ending.now.at.k) c.args.ending.now.next = λ goes.
    let placed = placed_to _ _ _ _ goes _ done.count in
    let extent = rw c.deref-4.ensures.value at c.length_at.ensures in
    let height = rw (block, extent) at c.height_to_margin-height.ensures.value in
    let size : is_solid (block_at c.args.ending.now.at.boxes.list.now p).inside ≡ false → IsBoxSize c.height_to_margin-height.result.0 = λ flow. c.height_to_margin-height.ensures.size (subst (λ (b : Block). is_solid b.inside ≡ false) (sym block) flow) in
    let starts = ap (λ (v : Length). v.0) c.bottom-start.ensures in
    let wrote : Wrote length_at old.heights.items c.write_at.new.column.items p c.height_to_margin-height.result.0 =
    subst (λ (xs : List Length). Wrote length_at old.heights.items xs p c.height_to_margin-height.result.0) (sym c.write_at.ensures) (wrote_length old.heights.items p c.height_to_margin-height.result (omega (arith, a, b, l))) in
    let ends : RunEnds (state_of old) c.end_of-end.result.0 = record { hanging = c.end_of-end.ensures.hanging; value = c.end_of-end.ensures.value } in
    record {
      places = goes.places;
      are = goes.are;
      knows = knows_parted c.args.ending.now.at.boxes.list.now c.args.ending.now.at.boxes.are.is_tree.tree (state_of old) (placing_of old.placing c.requires.known.places) p c.args.ending.now.next c.args.ending.now.at.boxes.are c.args.ending.now.positive c.args.ending.now.ends c.requires.known.knows
          _ _ (placing_of c.place_up_to.new.placing goes.places) c.end_of-end.result.0 c.length_at-mark.result.0 c.height_to_margin-height.result.0 c.bottom-start.result.0 c.lone_margin-flow.result.strut c.requires.parted c.requires.settled
          ends c.end_of-end.ensures.near settles placed (subst (λ (n : ℕ). AreExtentsKept c.args.ending.now.at.boxes.list.now n old.placing.extents.items c.place_up_to.new.placing.extents.items) (sym (places_count old.placing c.requires.known.places c.requires.known.are)) done.kept) goes.same marked size height starts wrote
          c.lone_margin-flow.result.fits holds;
    } in
    go there

pub length_at-requires : goal.length_at-requires
length_at-requires c =
    let f = c.requires.known.knows.fits in
    let old = c.args.flow.now in
    let done = c.in_ok-place_up_to.ensures {u = tt} in
    let a = f.parent in let b = f.within in
    let inner : c.args.ending.now.at.k < length c.args.ending.now.at.boxes.list.now = omega (arith, a, b) in
    let there = known_placed_on c.args.ending.now.at.boxes.list.now c.args.ending.now.at.boxes.are.is_tree.tree c.args.flow.now _ _ c.requires.known c.settle.new.marks.items (rw c.deref.ensures.value at c.settle.ensures).before c.place_up_to.new.placing (rw c.deref-2.ensures.value at done.placed) in
    rw c.deref-4.ensures.value (within_extents c.args.ending.now.at.boxes.list.now c.settle.new.marks.items c.place_up_to.new.placing c.requires.known.places there c.args.ending.now.at.k inner)
