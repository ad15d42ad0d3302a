use Rattle.std.proofs.Common.{◌<◌, ◌+◌, false, arith, length, refl, subst}
use Rattle.lay_flow.specs.declared.blocks.flow_box.FlowBox.{FlowBox}
use Rattle.lay_flow.specs.Blocks.Weights.{box_weight}
use Rattle.lay_flow.proofs.BlocksLemmas.IndexedBoxes.{box_is}
use Rattle.lay_flow.proofs.BlocksLemmas.Truths.{true_false}
use Rattle.lay_flow.proofs.BlocksLemmas.WeightFacts.{weight_next, weight_up}
use Rattle.lay_flow.proofs.blocks.weights.is_light.Goals as goal

pub returns-in-None : goal.returns-in-None
returns-in-None c = (
  λ t. absurd (true_false false t refl),
  λ le.
      let boxes = c.args.boxes.now in
      let k = c.loop-k.k in
      let inside = c.loop-k-test.true in
      let is = c.loop-k.invariant in
      let over = subst (λ (b : FlowBox). c.loop-k.left < box_weight b.kind) (box_is boxes k c.index-boxes-k.result inside c.index-boxes-k.is) ((c.in-None.ensures {u = tt}).none refl) in
      let next = weight_next boxes k in
      let up = weight_up boxes (k + 1) (length boxes) (omega (arith, inside)) in
      absurd (omega (arith, le, is, over, next, up)),
)
