use Rattle.std.proofs.Common.{◌∙◌, ℕ, List, sym, ap}
use Rattle.lay_inlines.specs.OpenBoxes.{open_after}
use Rattle.lay_inlines.specs.Strokes.{parts_of}
use Rattle.lay_inlines.proofs.OpenBoxSteps.{none_open_after}
use Rattle.lay_inlines.proofs.lines.pass_row.Goals as goal

pub returns-else-has_boxes : goal.returns-else-has_boxes
returns-else-has_boxes c =
    let taken = c.args.taken.now in
    let none = c.requires.none c.if-has_boxes.false in
    none ∙ sym (none_open_after taken (c.requires.no_boxes c.if-has_boxes.false)) ∙ ap (λ (ns : List ℕ). open_after ns (parts_of taken)) (sym none)
