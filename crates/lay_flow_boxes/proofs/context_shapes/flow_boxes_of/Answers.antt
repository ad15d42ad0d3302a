use Rattle.std.proofs.Common.{arith}
use Rattle.std.proofs.lemmas.Grind.{elements}
use Rattle.lay_flow_boxes.specs.ContextBlocks.{flow_box_of}
use Rattle.lay_flow_boxes.specs.FlowShapes.{measures_in}
use Rattle.lay_flow_boxes.proofs.FlowBoxSteps.{one_more}
use Rattle.lay_flow_boxes.proofs.context_shapes.flow_boxes_of.Goals as goal

pub loop-k-preserved : goal.loop-k-preserved
loop-k-preserved c =
    let ok = c.in_ok-push.ensures {u = tt} in
    record {
      count = rw ok.items (grind (arith, elements, c.loop-k.invariant.count));
      each = rw ok.items (one_more (flow_box_of (measures_in c.args.input.now c.args.parts.now) c.args.input.now.own_height c.args.lefts.now) c.loop-k.flow_boxes.items c.loop-k.k c.in_ok-flow_box.flow_box c.loop-k.invariant.count c.loop-k.invariant.each (c.in_ok-flow_box.ensures {u = tt}));
    }
