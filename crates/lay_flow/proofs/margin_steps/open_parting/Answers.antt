use Rattle.std.proofs.Common.{arith, ap, ◌∙◌, ◌+ℤ◌}
use Rattle.std.proofs.lemmas.Int.{ints}
use Rattle.lay_units.specs.declared.length.Unit.{Unit as Length}
use Rattle.lay_flow.specs.declared.blocks.block.Block.{Block}
use Rattle.lay_flow.specs.Pass.Known.{placing_of}
use Rattle.lay_flow.specs.Pass.Bounds.{state_of, position_of}
use Rattle.lay_flow.proofs.BlocksLemmas.WeightFacts.{light_at, weight_up}
use Rattle.lay_flow.specs.Blocks.Weights.{weight}
use Rattle.lay_flow.proofs.PassFits.{begins_near, end_near, mark_is_near}
use Rattle.lay_flow.proofs.PassSteps.{knows_parting}
use Rattle.lay_flow.proofs.Openings.{pushed}
use Rattle.lay_flow.proofs.RunReach.{RunEnds}
use Rattle.lay_flow.proofs.LaidLines.{inset_position}
use Rattle.lay_flow.proofs.margin_steps.open_parting.Goals as goal

pub end_of-mark-requires : goal.end_of-mark-requires
end_of-mark-requires c =
    begins_near c.args.child.now.at.boxes.list.now c.args.child.now.at.boxes.are (state_of c.args.flow.now) _ _ c.requires.ready.ready.fits

pub sum_of-start-requires-clause-a : goal.sum_of-start-requires-clause-a
sum_of-start-requires-clause-a c =
    let f = c.requires.ready.ready.fits in let a = f.first_most in let b = c.args.child.now.at.within in
    let near = end_near (weight c.args.child.now.at.boxes.list.now c.args.flow.now.first) (weight c.args.child.now.at.boxes.list.now c.args.child.now.at.k) (position_of c.args.flow.now.start) c.end_of-mark.result.0 f.start_near c.end_of-mark.ensures.near (weight_up c.args.child.now.at.boxes.list.now c.args.flow.now.first c.args.child.now.at.k a) in
    let n = mark_is_near (weight c.args.child.now.at.boxes.list.now c.args.child.now.at.k) c.end_of-mark.result.0 (light_at c.args.child.now.at.boxes.list.now c.args.child.now.at.boxes.are c.args.child.now.at.k (omega (arith, b))) near in
    let u = n.0 in let v = n.1 in (omega (arith, ints, u), omega (arith, ints, v))

pub returns : goal.returns
returns c =
    let holds = rw c.block-block.ensures.value at c.with_margin-strut.ensures in
    let settles = rw c.deref.ensures.value at c.settle.ensures in
    let starts = ap (λ (v : Length). v.0) c.sum_of-start.ensures ∙ ap (λ (b : Block). c.end_of-mark.result.0 +ℤ b.edge_top.0) c.block-block.ensures.value in
    let old = c.args.flow.now in
    let ends : RunEnds (pushed (state_of old) c.with_margin-strut.result.strut) c.end_of-mark.result.0 = record { hanging = c.end_of-mark.ensures.hanging; value = c.end_of-mark.ensures.value } in
    record {
      places = c.requires.ready.places;
      are = c.requires.ready.are;
      knows = knows_parting c.args.child.now.at.boxes.list.now c.args.child.now.at.boxes.are.is_tree.tree (state_of old) (placing_of old.placing c.requires.ready.places) c.args.child.now.at.k _ c.end_of-mark.result.0 c.sum_of-start.result.0 c.with_margin-strut.result.strut c.no_margin-flow.result.strut
          c.args.child.now.at.boxes.are c.args.child.now.positive c.args.child.now.at.within c.requires.parting c.requires.ready.ready holds ends c.end_of-mark.ensures.near
          settles starts c.no_margin-flow.result.fits c.no_margin-flow.ensures;
    }

pub sum_of-start-requires-clause-b : goal.sum_of-start-requires-clause-b
sum_of-start-requires-clause-b c = inset_position c.block-block.result.edge_top.0 c.block-block.ensures.fits.edge_top
