use Rattle.std.proofs.Common.{◌≡◌, ◌<◌, arith, sym, ap, ◌∙◌, subst, ◌+ℤ◌}
use Rattle.std.specs.Int.{int_max}
use Rattle.lay_flow.specs.Blocks.Boxes.{parent_at}
use Rattle.lay_flow.proofs.BlocksLemmas.BoxTrees.{parent_before}
use Rattle.lay_units.specs.Units.{IsPosition}
use Rattle.lay_units.specs.declared.length.Unit.{Unit as Length}
use Rattle.lay_flow.specs.Blocks.Lengths.{length_at}
use Rattle.lay_flow.specs.Blocks.MarginRuns.{block_at}
use Rattle.lay_flow.proofs.BlocksLemmas.FlowBoxFacts.{block_fits}
use Rattle.lay_flow.proofs.PlaceSteps.{ceiling_near, mark_is_position}
use Rattle.lay_flow.specs.Blocks.Weights.{weight}
use Rattle.lay_flow.proofs.BlocksLemmas.WeightFacts.{light_at, weight_up}
use Rattle.lay_flow.proofs.placement.ceiling.Goals as goal

pub sum_of-content-requires-clause-a : goal.sum_of-content-requires-clause-a
sum_of-content-requires-clause-a c =
    let within = c.args.of.now.at.within in
    let parent : parent_at c.args.of.now.at.boxes.list.now c.args.of.now.at.k < c.args.of.now.at.k = parent_before c.args.of.now.at.boxes.list.now c.args.of.now.at.boxes.are.is_tree.tree c.args.of.now.at.k c.requires within in
    let is = c.parent.ensures.value in
    subst IsPosition (sym c.length_at.ensures) (mark_is_position (weight c.args.of.now.at.boxes.list.now c.parent.result) _ (light_at c.args.of.now.at.boxes.list.now c.args.of.now.at.boxes.are c.parent.result (omega (arith, within, parent, is))) (c.args.of.now.near c.parent.result))

pub returns-clause-near : goal.returns-clause-near
returns-clause-near c =
    let within = c.args.of.now.at.within in
    let up : parent_at c.args.of.now.at.boxes.list.now c.args.of.now.at.k < c.args.of.now.at.k = parent_before c.args.of.now.at.boxes.list.now c.args.of.now.at.boxes.are.is_tree.tree c.args.of.now.at.k c.requires within in
    let is = c.parent.ensures.value in
    let p = c.parent.result in
    let less : p < c.args.of.now.at.k = omega (arith, up, is) in
    let edge = (block_fits c.args.of.now.at.boxes.list.now c.args.of.now.at.boxes.are p (omega (arith, less, within))).edge_top in
    let sum = ap (λ (v : Length). v.0) c.sum_of-content.ensures in
    let top : c.lower.result.0 ≡ int_max (length_at c.args.of.now.marks.now c.args.of.now.at.k) (length_at c.args.of.now.marks.now p +ℤ (block_at c.args.of.now.at.boxes.list.now p).edge_top.0) =
    c.lower.ensures ∙ (λ i. int_max (c.length_at-2.ensures i) (sum i)) ∙ (λ i. int_max (length_at c.args.of.now.marks.now c.args.of.now.at.k) (c.length_at.ensures i +ℤ (c.block.ensures.value i).edge_top.0)) in
    ceiling_near (weight c.args.of.now.at.boxes.list.now c.args.of.now.at.k) (weight c.args.of.now.at.boxes.list.now p) _ _ _ _ (weight_up c.args.of.now.at.boxes.list.now p c.args.of.now.at.k (omega (arith, less))) (c.args.of.now.near c.args.of.now.at.k) (c.args.of.now.near p) edge.0 edge.1 top
