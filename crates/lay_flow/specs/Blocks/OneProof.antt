-- What is known of the boxes of a context is known in one way: the facts have one proof, so that a type may keep them.
use Rattle.std.specs.Prelude.{List}
use Rattle.std.proofs.Props.{props}
use Rattle.lay_flow.specs.declared.blocks.flow_box.FlowBox.{FlowBox}
use Rattle.lay_flow.specs.declared.blocks.flow_box.FlowKind.{FlowKind}
use Rattle.lay_flow.specs.declared.blocks.flow_box.FlowKind.TheVariants.{Block as block, Lines as lines, Solid as solid}
use Rattle.lay_flow.specs.declared.blocks.flow_box.FlowKind.TheVariants.{Float as float, LineFloat as line_float, Inline as inline}
use Rattle.lay_flow.specs.Blocks.FlowBoxes.{AreFlowBoxes, KindFits}

KindFits-prop : (kind : FlowKind) → IsProp (KindFits kind)
KindFits-prop (block b) = hlevel props
KindFits-prop (lines l) = hlevel props
KindFits-prop (solid b) = hlevel props
KindFits-prop (float b) = hlevel props
KindFits-prop (line_float b) = hlevel props
KindFits-prop inline = hlevel props

pub AreFlowBoxes-prop : (boxes : List FlowBox) → IsProp (AreFlowBoxes boxes)
AreFlowBoxes-prop boxes = hlevel (props, KindFits-prop)
