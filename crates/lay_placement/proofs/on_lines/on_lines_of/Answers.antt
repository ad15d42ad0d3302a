use Rattle.std.proofs.Common.{◌≡◌, ◌<◌, ℕ, List, length, false, refl, rules, subst}
use Rattle.lay_flow.specs.declared.blocks.flow_box.FlowBox.{FlowBox}
use Rattle.lay_flow.specs.Blocks.Boxes.{box_at}
use Rattle.lay_placement.specs.OnLines.{holds_lines}
use Rattle.lay_placement.proofs.OnLineSteps.{none_on_lines}
use Rattle.lay_placement.proofs.on_lines.on_lines_of.Goals as goal

pub returns-then-not-has_lines : goal.returns-then-not-has_lines
returns-then-not-has_lines c =
    let are : c.as_slice.result.now ≡ c.args.places.now.shape.flow_boxes = search rules in
    let none = subst (λ (bs : List FlowBox). (k : ℕ) → k < length bs → holds_lines (box_at bs k).kind ≡ false) are (c.if-not-has_lines.ensures refl) in
    rw c.new.ensures.items (none_on_lines c.args.input.now c.args.places.now c.requires.counts.box_count none)
