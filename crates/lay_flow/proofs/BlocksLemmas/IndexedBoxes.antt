-- A box that is read by its place.
use Rattle.std.proofs.Common.{◌≡◌, ℕ, ◌<◌, List, length, slice_index_or, ◌∙◌, arith}
use Rattle.std.proofs.lemmas.Grind.{elements}
use Rattle.lay_flow.specs.declared.blocks.flow_box.FlowBox.{FlowBox}
use Rattle.lay_flow.specs.Blocks.Boxes.{box_at, no_flow_box}

any_default : (boxes : List FlowBox) (k : ℕ) (a b : FlowBox) → k < length boxes → slice_index_or boxes k a ≡ slice_index_or boxes k b
any_default boxes k a b lt = grind (arith, elements, lt)

pub box_is : (boxes : List FlowBox) (k : ℕ) (b : FlowBox) → k < length boxes → b ≡ slice_index_or boxes k b → b ≡ box_at boxes k
box_is boxes k b lt is = is ∙ any_default boxes k b no_flow_box lt

pub box_read : (boxes : List FlowBox) (k : ℕ) (b : FlowBox) → k < length boxes → slice_index_or boxes k b ≡ box_at boxes k
box_read boxes k b lt = any_default boxes k b no_flow_box lt
