use Rattle.lay_flow.specs.declared.blocks.block.Block.{Block}
use Rattle.lay_flow.specs.Blocks.BlockPositions.{is_solid}
use Rattle.lay_flow.specs.Blocks.MarginRuns.{block_at}
use Rattle.std.proofs.Common.{◌≡◌, false, arith, subst, sym, List, ap}
use Rattle.lay_units.specs.declared.length.Unit.{Unit as Length}
use Rattle.lay_units.specs.Units.{IsNear}
use Rattle.lay_flow.specs.Blocks.Lengths.{length_at}
use Rattle.lay_flow.specs.Pass.Known.{placing_of}
use Rattle.lay_flow.specs.Pass.Bounds.{state_of}
use Rattle.lay_flow.proofs.BlocksLemmas.WeightFacts.{light_at}
use Rattle.lay_flow.specs.Blocks.Weights.{weight}
use Rattle.lay_flow.proofs.BlocksLemmas.BlockKinds.{joins_flow, placed_none}
use Rattle.lay_flow.proofs.SoFar.{Wrote}
use Rattle.lay_flow.proofs.PassFits.{begins_near, mark_is_near, box_height_position}
use Rattle.lay_flow.proofs.PassSteps.{knows_joined}
use Rattle.lay_flow.proofs.WroteColumns.{wrote_length}
use Rattle.lay_flow.proofs.margin_steps.close_joined.Goals as goal

pub invariant_of-standing-clause-near : goal.invariant_of-standing-clause-near
invariant_of-standing-clause-near c =
    let f = c.requires.known.knows.fits in let a = f.parent in let b = f.within in
    let e = rw c.deref.ensures.value at c.length_at-mark.ensures in
    subst IsNear (sym e) (mark_is_near (weight c.args.ending.now.at.boxes.list.now c.args.ending.now.at.k) _ (light_at c.args.ending.now.at.boxes.list.now c.args.ending.now.at.boxes.are c.args.ending.now.at.k (omega (arith, a, b))) (f.mark_near c.args.ending.now.at.k))

pub invariant_of-border : goal.invariant_of-border
invariant_of-border c =
    record { near = rw c.position.ensures (begins_near c.args.ending.now.at.boxes.list.now c.args.ending.now.at.boxes.are (state_of c.args.flow.now) _ _ c.requires.known.knows.fits) }

pub returns : goal.returns
returns c =
    let f = c.requires.known.knows.fits in let a = f.parent in let b = f.within in let l = f.heights_length in
    let block = c.args.ending.now.is in
    let holds = rw block at c.with_margin-flow.ensures in
    let p = c.args.ending.now.at.k in
    let old = c.args.flow.now in
    let e = rw c.deref-2.ensures.value at c.length_at.ensures in
    let marked = rw c.deref.ensures.value at c.length_at-mark.ensures in
    let height = rw (block, e, c.position.ensures) at c.height_to_border-height.ensures.value in
    let flow = subst (λ (b : Block). is_solid b.inside ≡ false) (sym block) (placed_none (block_at c.args.ending.now.at.boxes.list.now p).inside (joins_flow (block_at c.args.ending.now.at.boxes.list.now p) c.requires.joined)).1 in
    let starts = ap (λ (v : Length). v.0) c.bottom-start.ensures in
    let wrote : Wrote length_at old.heights.items c.write_at.new.column.items p c.height_to_border-height.result.0 =
    subst (λ (xs : List Length). Wrote length_at old.heights.items xs p c.height_to_border-height.result.0) (sym c.write_at.ensures) (wrote_length old.heights.items p c.height_to_border-height.result (omega (arith, a, b, l))) in
    record {
      places = c.requires.known.places;
      are = c.requires.known.are;
      knows = knows_joined c.args.ending.now.at.boxes.list.now c.args.ending.now.at.boxes.are.is_tree.tree (state_of old) (placing_of old.placing c.requires.known.places) p c.args.ending.now.next c.args.ending.now.at.boxes.are c.args.ending.now.positive c.args.ending.now.ends c.requires.known.knows
          _ c.length_at-mark.result.0 c.height_to_border-height.result.0 c.bottom-start.result.0 c.with_margin-flow.result.strut c.requires.joined c.requires.unbarred c.requires.settled marked (c.height_to_border-height.ensures.size flow) height starts wrote
          c.with_margin-flow.result.fits holds;
    }

pub bottom-start-requires : goal.bottom-start-requires
bottom-start-requires c =
    let flow = subst (λ (b : Block). is_solid b.inside ≡ false) (sym c.args.ending.now.is) (placed_none (block_at c.args.ending.now.at.boxes.list.now c.args.ending.now.at.k).inside (joins_flow (block_at c.args.ending.now.at.boxes.list.now c.args.ending.now.at.k) c.requires.joined)).1 in
    box_height_position c.height_to_border-height.result.0 (c.height_to_border-height.ensures.size flow)
