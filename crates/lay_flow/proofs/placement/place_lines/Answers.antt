use Rattle.std.proofs.Common.{slice_index_or, ◌≡◌, ◌+ℤ◌, ◌-ℤ◌, ℤ, List, arith, refl, ap, sym, ◌∙◌, subst}
use Rattle.lay_units.specs.Units.{IsPosition}
use Rattle.lay_units.specs.declared.length.Unit.{Unit as Length}
use Rattle.lay_lines.specs.Lines.{lines_with_floats}
use Rattle.lay_flow.specs.Blocks.BlockFloats.{Spot}
use Rattle.lay_flow.specs.Blocks.Lengths.{length_at}
use Rattle.lay_flow.specs.Blocks.MarginRuns.{block_at}
use Rattle.lay_flow.specs.Blocks.Weights.{weight}
use Rattle.lay_flow.specs.Pass.Known.{placing_of}
use Rattle.lay_flow.proofs.BlocksLemmas.BlockKinds.{lines_placed}
use Rattle.lay_flow.proofs.BlocksLemmas.IndexedBoxes.{box_read}
use Rattle.lay_flow.proofs.LaidLines.{end_near, floats_near, laid_lines, laid_near, mark_position, top_near}
use Rattle.lay_flow.proofs.PlaceSteps.{knows_lines}
use Rattle.lay_flow.proofs.PlacedOn.{pushed_on, counted, placed_count, placed_so_far}
use Rattle.lay_flow.proofs.SoFar.{Wrote}
use Rattle.lay_flow.proofs.BlocksLemmas.WeightFacts.{light_at}
use Rattle.lay_flow.proofs.WroteColumns.{wrote_extent, wrote_length}
use Rattle.lay_flow.proofs.placement.place_lines.Goals as goal

pub sum_of-requires-clause-a : goal.sum_of-requires-clause-a
sum_of-requires-clause-a c =
    let within = c.args.of.now.at.within in let boxes = c.args.of.now.at.boxes.list.now in
    subst IsPosition (sym c.length_at.ensures) (mark_position (weight boxes c.args.of.now.at.k) _ (light_at boxes c.args.of.now.at.boxes.are c.args.of.now.at.k (omega (arith, within))) (c.args.of.now.near c.args.of.now.at.k))

pub invariant_of-top : goal.invariant_of-top
invariant_of-top c =
    let top = ap (λ (v : Length). v.0) c.sum_of.ensures ∙ (λ i. c.length_at.ensures i +ℤ (c.block.ensures.value i).edge_top.0) in
    record { near = top_near c.args.of.now.at.boxes.list.now c.args.of.now.at.boxes.are c.args.of.now.marks.now c.args.of.now.at.k c.args.of.now.at.within (c.args.of.now.near c.args.of.now.at.k) c.sum_of.result.0 top }

pub lay_lines-requires-clause-floats : goal.lay_lines-requires-clause-floats
lay_lines-requires-clause-floats c =
    let within = c.args.of.now.at.within in
    floats_near c.args.of.now.at.boxes.list.now c.args.of.now.at.boxes.are c.args.of.now.at.k (omega (arith, within)) c.args.placing.now.floats c.requires.known.to.within

pub invariant_of-end : goal.invariant_of-end
invariant_of-end c =
    let top = ap (λ (v : Length). v.0) c.sum_of.ensures ∙ (λ i. c.length_at.ensures i +ℤ (c.block.ensures.value i).edge_top.0) in
    let read = slice_index_or c.args.of.now.at.boxes.list.now c.args.of.now.at.k c.index-of-of.result in
    let b = box_read c.args.of.now.at.boxes.list.now c.args.of.now.at.k c.index-of-of.result c.args.of.now.at.within in
    record {
      near = end_near c.args.of.now.at.boxes.list.now c.args.of.now.at.boxes.are c.args.of.now.marks.now c.args.of.now.at.k c.args.of.now.at.within (c.args.of.now.near c.args.of.now.at.k) c.sum_of.result.0 top
          c.requires.lines c.args.placing.now.floats c.requires.known.to.within read b (lines_with_floats c.in_ok-lines.lines c.lay_lines.new.floats) c.in_ok-lines.ensures.near;
    }

pub returns-clause-placed : goal.returns-clause-placed
returns-clause-placed c places are known =
    let boxes = c.args.of.now.at.boxes.list.now in
    let k = c.args.of.now.at.k in
    let was = placed_so_far _ _ _ _ c.requires.known places known in
    let within = c.args.of.now.at.within in
    let old = c.args.placing.now in
    let top = ap (λ (v : Length). v.0) c.sum_of.ensures ∙ (λ i. c.length_at.ensures i +ℤ (c.block.ensures.value i).edge_top.0) in
    let read = slice_index_or boxes k c.index-of-of.result in
    let b = box_read boxes k c.index-of-of.result within in
    let v = lines_with_floats c.in_ok-lines.lines c.lay_lines.new.floats in
    let near = laid_near boxes c.args.of.now.at.boxes.are c.args.of.now.marks.now k within (c.args.of.now.near k) c.sum_of.result.0 top c.requires.lines old.floats was.within read b v c.in_ok-lines.ensures.near in
    let laid = laid_lines boxes c.args.of.now.at.boxes.are c.args.of.now.marks.now k within (c.args.of.now.near k) c.sum_of.result.0 top c.requires.lines old.floats was.within read b v c.in_ok-lines.ensures.near c.in_ok-lines.ensures.lines in
    let here : Spot = record { place = c.nowhere.result; lines = v } in
    let l = was.extents_length in
    let value : c.below-depth.result.0 ≡ v.end.0 -ℤ (length_at c.args.of.now.marks.now k +ℤ (block_at boxes k).edge_top.0) = ap (λ (v : Length). v.0) c.below-depth.ensures.value ∙ (λ i. v.end.0 -ℤ top i) in
    let wrote : Wrote length_at old.extents.items c.write_at.new.column.items k (v.end.0 -ℤ (length_at c.args.of.now.marks.now k +ℤ (block_at boxes k).edge_top.0)) =
    subst (λ (v : ℤ). Wrote length_at old.extents.items c.write_at.new.column.items k v) value
    (subst (λ (xs : List Length). Wrote length_at old.extents.items xs k c.below-depth.result.0) (sym c.write_at.ensures) (wrote_length old.extents.items k c.below-depth.result (omega (arith, within, l)))) in
    pushed_on boxes c.args.of.now.marks.now old _ places are here k c.requires.known (c.in_ok-push.ensures {u = tt}).items (c.in_ok-push-2.ensures {u = tt}).items (c.in_ok-push-3.ensures {u = tt}).items
    (knows_lines boxes c.args.of.now.marks.now (placing_of old places) k was here c.write_at.new.column.items c.lay_lines.new.floats c.requires.lines near laid wrote c.nowhere.ensures refl)

pub returns-clause-count : goal.returns-clause-count
returns-clause-count c = counted c.args.placing.now.places.items _ _ c.args.of.now.at.k (placed_count _ _ _ _ c.requires.known) (c.in_ok-push.ensures {u = tt}).items

pub returns-clause-kept : goal.returns-clause-kept
returns-clause-kept c =
    wrote_extent c.args.of.now.at.boxes.list.now c.args.of.now.at.k c.args.placing.now.extents.items _ _ (lines_placed _ c.requires.lines) c.write_at.ensures
