use Rattle.std.proofs.Common.{◌≡◌, List, [], sym, ap, subst, rules}
use Rattle.std.proofs.lemmas.List.{nil_from_length}
use Rattle.lay_valign.specs.declared.parts.Part.{Part as LinePart}
use Rattle.lay_valign.specs.LineShape.{IsShape}
use Rattle.lay_lines.specs.declared.content.content.InlineStart.{InlineStart}
use Rattle.lay_lines.specs.Content.Extents.{Reading, reading_to, parts_to}
use Rattle.lay_lines.proofs.ContentLemmas.TextLines.{text_reading}
use Rattle.lay_lines.proofs.content.extents.line_shape.Goals as goal

pub returns-then-has_no_boxes-clause-shape : goal.returns-then-has_no_boxes-clause-shape
returns-then-has_no_boxes-clause-shape c =
    let fr = c.args.frame.now in
    let ss = c.args.stretches.now in
    let n = c.args.count in
    let none : c.args.boxes.now.items ≡ [] = nil_from_length _ (search rules) in
    let e = ap (λ (r : Reading). r.line.parts) (text_reading fr ss n (c.has_no_boxes.ensures (search rules))) in
    subst (λ (bs : List InlineStart). IsShape (parts_to fr bs ss n) c.strut_shape.result) (sym none)
    (subst (λ (ps : List LinePart). IsShape ps c.strut_shape.result) (sym e) c.strut_shape.ensures)

pub returns-then-has_no_boxes-clause-boxes : goal.returns-then-has_no_boxes-clause-boxes
returns-then-has_no_boxes-clause-boxes c =
    let fr = c.args.frame.now in
    let ss = c.args.stretches.now in
    let n = c.args.count in
    let none : c.args.boxes.now.items ≡ [] = nil_from_length _ (search rules) in
    let e = ap (λ (r : Reading). r.open_boxes) (text_reading fr ss n (c.has_no_boxes.ensures (search rules))) in
    subst (λ (bs : List InlineStart). bs ≡ (reading_to fr bs ss n).open_boxes) (sym none) (sym e)
