use Rattle.std.proofs.Common.{◌≡◌, ◌∙◌, refl}
use Rattle.lay_line_items.specs.InlineSegments.{items_in}
use Rattle.lay_flow_boxes.proofs.line_boxes.content_of_items.Goals as goal

pub returns : goal.returns
returns c =
    let items = c.in_ok-items.ensures {u = tt} in
    let left : c.as_slice.result.now ≡ items_in c.args.of.now.input.now.face c.args.of.now.input.now.boxes c.args.k = c.as_slice.ensures ∙ items ∙ rw (c.face.ensures, c.boxes.ensures.boxes) refl in
    rw (c.measures_in-measures.ensures, left, c.line_container.ensures) at c.line_content_of_items.ensures.some
