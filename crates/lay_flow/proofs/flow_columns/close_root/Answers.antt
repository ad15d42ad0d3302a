use Rattle.std.proofs.Common.{◌≡◌, false, ℕ, ◌+ℤ◌, pos, arith, subst, sym, List, ap, ◌∙◌, length}
use Rattle.lay_units.specs.declared.length.Unit.{Unit as Length}
use Rattle.lay_units.specs.Units.{IsNear}
use Rattle.lay_floats.specs.declared.requests.Clear.TheVariants.{Both as clear_both}
use Rattle.lay_heights.specs.AutoHeights.{root_height_of}
use Rattle.lay_flow.specs.declared.blocks.block.Block.{Block}
use Rattle.lay_flow.specs.Blocks.Lengths.{length_at}
use Rattle.lay_flow.specs.Blocks.BlockPositions.{border_height, is_solid, held_end}
use Rattle.lay_flow.specs.Blocks.BlockSizes.{IsLineDepth}
use Rattle.lay_flow.specs.Blocks.Weights.{weight}
use Rattle.lay_flow.specs.Pass.Bounds.{state_of, IsMarkNear}
use Rattle.lay_flow.specs.Pass.Knows.{AreExtentsKept}
use Rattle.lay_flow.specs.Pass.Known.{placing_of}
use Rattle.lay_flow.proofs.SoFar.{Wrote}
use Rattle.lay_flow.proofs.PassFits.{begins_near, mark_is_near, marks_near, end_is_near}
use Rattle.lay_flow.specs.Pass.Known.{ArePlacedOn, IsFinished}
use Rattle.lay_flow.proofs.PlacedOn.{known_placed, line_depth, known_placed_on, places_count, within_extents, placed_to}
use Rattle.lay_flow.proofs.BlocksLemmas.WeightFacts.{light_at}
use Rattle.lay_flow.proofs.PlaceSteps.{clear_edge_position}
use Rattle.lay_flow.proofs.PassEnds.{all_places, sized_boxes}
use Rattle.lay_flow.proofs.RunReach.{RunEnds}
use Rattle.lay_flow.proofs.WroteColumns.{wrote_length}
use Rattle.lay_flow.proofs.flow_columns.close_root.Goals as goal

pub end_of-end-requires : goal.end_of-end-requires
end_of-end-requires c =
    begins_near c.args.boxes.now.list.now c.args.boxes.now.are (state_of c.args.flow.now) _ _ c.requires.knows.fits

pub invariant_of-marked-clause-near : goal.invariant_of-marked-clause-near
invariant_of-marked-clause-near c =
    let f = c.requires.knows.fits in
    let settles = rw c.deref.ensures.value at c.settle.ensures in
    let near = marks_near c.args.boxes.now.list.now c.args.boxes.now.are.is_tree.tree (state_of c.args.flow.now) _ _ f c.end_of-end.result.0 c.end_of-end.ensures.near _ f.within _ settles in
    subst (λ (xs : List Length). (j : ℕ) → IsMarkNear (weight c.args.boxes.now.list.now j) (length_at xs j)) (sym c.deref-2.ensures.value) near

pub place_up_to-requires-clause-known : goal.place_up_to-requires-clause-known
place_up_to-requires-clause-known c =
    let settles = rw c.deref.ensures.value at c.settle.ensures in
    known_placed c.args.boxes.now.list.now c.args.boxes.now.are.is_tree.tree c.args.flow.now _ _ c.requires _ (λ j lt. rw c.deref-2.ensures.value (settles.before j lt))

pub root_height-height-requires : goal.root_height-height-requires
root_height-height-requires c =
    let done = c.in_ok-place_up_to.ensures {u = tt} in
    let old = c.args.flow.now in
    let fits = c.requires.knows.fits in
    let there = known_placed_on c.args.boxes.now.list.now c.args.boxes.now.are.is_tree.tree c.args.flow.now _ _ c.requires c.settle.new.marks.items (rw c.deref.ensures.value at c.settle.ensures).before c.place_up_to.new.placing (rw c.deref-2.ensures.value at done.placed) in
    (λ (goes : ArePlacedOn c.args.boxes.now.list.now c.settle.new.marks.items c.place_up_to.new.placing c.requires.places).
    clear_edge_position (weight c.args.boxes.now.list.now (length c.args.boxes.now.list.now)) _ clear_both c.clear_edge-bottom.result c.args.boxes.now.are.light (placed_to _ _ _ _ goes (length c.args.boxes.now.list.now) done.count).within c.clear_edge-bottom.ensures) there

pub invariant_of-root_end : goal.invariant_of-root_end
invariant_of-root_end c =
    let boxes = c.args.boxes.now in
    record { near = end_is_near boxes.list.now boxes.are.is_tree.tree (state_of c.args.flow.now) _ _ c.requires.knows.fits c.end_of-end.result.0 c.end_of-end.ensures.near boxes.are }

pub invariant_of-standing-clause-lines : goal.invariant_of-standing-clause-lines
invariant_of-standing-clause-lines c lines =
    let done = c.in_ok-place_up_to.ensures {u = tt} in
    let old = c.args.flow.now in
    let fits = c.requires.knows.fits in
    let there = known_placed_on c.args.boxes.now.list.now c.args.boxes.now.are.is_tree.tree c.args.flow.now _ _ c.requires c.settle.new.marks.items (rw c.deref.ensures.value at c.settle.ensures).before c.place_up_to.new.placing (rw c.deref-2.ensures.value at done.placed) in
    let go : ArePlacedOn c.args.boxes.now.list.now c.settle.new.marks.items c.place_up_to.new.placing c.requires.places → IsLineDepth c.length_at-mark.result.0 c.block-block.result.edge_top.0 c.length_at.result.0 = λ goes.
    let some = c.args.boxes.now.are.is_tree.some in
    let block = c.block-block.ensures.value in
    let marked = rw c.deref-3.ensures.value at c.length_at-mark.ensures in
    let depth = rw c.deref-4.ensures.value at c.length_at.ensures in
    let there = rw block at lines in
    rw (block, depth, marked) (line_depth c.args.boxes.now.list.now c.args.boxes.now.are c.settle.new.marks.items (placing_of c.place_up_to.new.placing goes.places) (length c.args.boxes.now.list.now) (placed_to _ _ _ _ goes _ done.count) 0 some (omega arith) there) in
    go there

pub returns-clause-finished : goal.returns-clause-finished
returns-clause-finished c =
    let f = c.requires.knows.fits in let some = c.args.boxes.now.are.is_tree.some in let l = f.heights_length in
    let block = c.block-block.ensures.value in
    let marked = rw c.deref-3.ensures.value at c.length_at-mark.ensures in
    let depth = rw c.deref-4.ensures.value at c.length_at.ensures in
    let settles = rw c.deref.ensures.value at c.settle.ensures in
    let done = c.in_ok-place_up_to.ensures {u = tt} in
    let old = c.args.flow.now in
    let fits = c.requires.knows.fits in
    let there = known_placed_on c.args.boxes.now.list.now c.args.boxes.now.are.is_tree.tree c.args.flow.now _ _ c.requires c.settle.new.marks.items (rw c.deref.ensures.value at c.settle.ensures).before c.place_up_to.new.placing (rw c.deref-2.ensures.value at done.placed) in
    let go : ArePlacedOn c.args.boxes.now.list.now c.settle.new.marks.items c.place_up_to.new.placing c.requires.places → IsFinished c.args.boxes.now.list.now (record c.args.flow.now { marks = c.settle.new.marks; heights = c.write_at.new.column; placing = c.place_up_to.new.placing }) = λ goes.
    let placed = placed_to _ _ _ _ goes _ done.count in
    let placing = placing_of c.place_up_to.new.placing goes.places in
    let over = c.root_end.ensures ∙ (λ i. held_end (block i).inside (c.length_at-mark.result.0 +ℤ (block i).edge_top.0) (depth i) c.end_of-end.result.0) in
    let is_height = c.root_height-height.ensures.value
    ∙ ap (λ (b : Block). border_height b (pos 0) (root_height_of (record { 0 = c.length_at-mark.result.0 +ℤ b.edge_top.0 }) c.root_end.result.unit c.clear_edge-bottom.result)) block in
    let wrote_height : Wrote length_at old.heights.items c.write_at.new.column.items 0 c.root_height-height.result.0 =
    subst (λ (xs : List Length). Wrote length_at old.heights.items xs 0 c.root_height-height.result.0) (sym c.write_at.ensures) (wrote_length old.heights.items 0 c.root_height-height.result (omega (arith, some, l))) in
    let ends : RunEnds (state_of old) c.end_of-end.result.0 = record { hanging = c.end_of-end.ensures.hanging; value = c.end_of-end.ensures.value } in
    let kept = subst (λ (n : ℕ). AreExtentsKept c.args.boxes.now.list.now n old.placing.extents.items c.place_up_to.new.placing.extents.items) (sym (places_count old.placing c.requires.places c.requires.are)) done.kept in
    record {
      places = goes.places;
      are = goes.are;
      context = all_places c.args.boxes.now.list.now c.args.boxes.now.are (state_of old) (placing_of old.placing c.requires.places) placing _ _ c.clear_edge-bottom.result
          c.end_of-end.result.0 c.root_end.result.unit.0 c.length_at-mark.result.0 c.root_height-height.result.0 c.requires.knows ends settles placed kept goes.same c.clear_edge-bottom.ensures
          marked over is_height wrote_height;
      near = placed.near;
    } in
    go there

pub returns-clause-near : goal.returns-clause-near
returns-clause-near c k lt =
    let f = c.requires.knows.fits in let l = f.marks_length in
    let settles = rw c.deref.ensures.value at c.settle.ensures in
    let m = settles.length_is in
    mark_is_near (weight c.args.boxes.now.list.now k) _ (light_at c.args.boxes.now.list.now c.args.boxes.now.are k (omega (arith, l, m, lt)))
    (marks_near c.args.boxes.now.list.now c.args.boxes.now.are.is_tree.tree (state_of c.args.flow.now) _ _ f c.end_of-end.result.0 c.end_of-end.ensures.near _ f.within _ settles k)

pub returns-clause-sized : goal.returns-clause-sized
returns-clause-sized c =
    let f = c.requires.knows.fits in let some = c.args.boxes.now.are.is_tree.some in let l = f.heights_length in
    let old = c.args.flow.now in
    let wrote : Wrote length_at old.heights.items c.write_at.new.column.items 0 c.root_height-height.result.0 =
    subst (λ (xs : List Length). Wrote length_at old.heights.items xs 0 c.root_height-height.result.0) (sym c.write_at.ensures) (wrote_length old.heights.items 0 c.root_height-height.result (omega (arith, some, l))) in
    sized_boxes c.args.boxes.now.list.now c.args.boxes.now.are (state_of old) _ c.root_height-height.result.0 f
    (λ flow. c.root_height-height.ensures.size (subst (λ (b : Block). is_solid b.inside ≡ false) (sym c.block-block.ensures.value) flow)) wrote

pub length_at-requires : goal.length_at-requires
length_at-requires c =
    let f = c.requires.knows.fits in
    let old = c.args.flow.now in
    let done = c.in_ok-place_up_to.ensures {u = tt} in
    let there = known_placed_on c.args.boxes.now.list.now c.args.boxes.now.are.is_tree.tree c.args.flow.now _ _ c.requires c.settle.new.marks.items (rw c.deref.ensures.value at c.settle.ensures).before c.place_up_to.new.placing (rw c.deref-2.ensures.value at done.placed) in
    rw c.deref-4.ensures.value (within_extents c.args.boxes.now.list.now c.settle.new.marks.items c.place_up_to.new.placing c.requires.places there 0 c.args.boxes.now.are.is_tree.some)

pub invariant_of-standing-clause-near : goal.invariant_of-standing-clause-near
invariant_of-standing-clause-near c =
    let f = c.requires.knows.fits in
    let marked = rw c.deref-3.ensures.value at c.length_at-mark.ensures in
    let settles = rw c.deref.ensures.value at c.settle.ensures in
    subst IsNear (sym marked) (mark_is_near (weight c.args.boxes.now.list.now 0) _ (light_at c.args.boxes.now.list.now c.args.boxes.now.are 0 (omega arith))
    (marks_near c.args.boxes.now.list.now c.args.boxes.now.are.is_tree.tree (state_of c.args.flow.now) _ _ f c.end_of-end.result.0 c.end_of-end.ensures.near _ f.within _ settles 0))
