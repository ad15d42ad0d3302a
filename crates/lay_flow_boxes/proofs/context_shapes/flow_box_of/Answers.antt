use Rattle.std.proofs.Common.{◌≡◌, ◌∙◌, sym, arith}
use Rattle.lay_line_measures.specs.BoxMeasuresValue.{BoxMeasuresValue}
use Rattle.lay_flow_boxes.specs.ContextBlocks.{flow_box_of, is_inside_lines}
use Rattle.lay_flow_boxes.specs.FlowShapes.{measures_in}
use Rattle.lay_flow_boxes.proofs.FlowFacts.{box_is, first_out, in_lines_is, kind_inside, kind_outside, kind_with}
use Rattle.lay_flow_boxes.proofs.context_shapes.flow_box_of.Goals as goal
use Rattle.lay_flow_boxes.proofs.context_shapes.flow_box_of.Goals.{then-k-gt0, else-k-gt0, in-Some, in-None, in-None-2}

pub returns : goal.returns
returns c =
    let m : BoxMeasuresValue = measures_in c.args.of.now.input.now c.args.of.now.parts.now in
    let found = c.in_ok-content.ensures {u = tt} in
    let parent = c.container-parent.ensures.container in
    let in_lines : c.if-k-gt0.in_lines ≡ is_inside_lines m c.args.of.now.lefts.now c.args.k = elim c.if-k-gt0.branch [
      | then-k-gt0 w ↦ (let before = c.container-parent.ensures.before w.if-k-gt0.true in
          w.in_lines-is ∙ w.holds_lines-in_lines.ensures ∙ in_lines_is m c.args.of.now.input.now.own_height c.args.of.now.lefts.now c.args.k c.container-parent.result _ w.if-k-gt0.true parent (c.requires.before c.container-parent.result before))
      | else-k-gt0 w ↦ w.in_lines-is ∙ first_out m c.args.of.now.lefts.now c.args.k (omega (arith, w.if-k-gt0.false))
    ] in
    let kind : c.match-branch-2.kind ≡ (flow_box_of m c.args.of.now.input.now.own_height c.args.of.now.lefts.now c.args.k).kind = elim c.match-branch-2.branch [
      | in-Some w ↦ (let is = sym found ∙ w.in-Some.is in
          let block = w.own_block.ensures in
          w.kind-is ∙ rw block (sym (kind_with m c.args.of.now.input.now.own_height c.args.of.now.lefts.now c.args.k w.in-Some.content is)))
      | in-None w ↦ w.kind-is ∙ w.kind_in_lines-kind.ensures ∙ sym (kind_inside m c.args.of.now.input.now.own_height c.args.of.now.lefts.now c.args.k (sym found ∙ w.in-None.is) (sym in_lines ∙ w.if-in_lines.true))
      | in-None-2 w ↦ w.kind-is ∙ w.kind_alone-kind.ensures ∙ sym (kind_outside m c.args.of.now.input.now.own_height c.args.of.now.lefts.now c.args.k (sym found ∙ w.in-None.is) (sym in_lines ∙ w.if-in_lines.false))
    ] in
    box_is m c.args.of.now.input.now.own_height c.args.of.now.lefts.now c.args.k c.container-parent.result c.match-branch-2.kind parent kind
