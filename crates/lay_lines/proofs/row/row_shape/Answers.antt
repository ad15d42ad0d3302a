use Rattle.std.proofs.Common.{◌≡◌, List, IfOk, ap, subst}
use Rattle.lay_valign.specs.declared.parts.Part.{Part as LinePart}
use Rattle.lay_valign.specs.LineShape.{IsShape}
use Rattle.lay_lines.specs.declared.content.content.InlineStart.{InlineStart}
use Rattle.lay_lines.specs.Content.Extents.{Reading}
use Rattle.lay_lines.proofs.NoBoxes.{same_reading}
use Rattle.lay_lines.proofs.row.row_shape.Goals as goal

pub line_shape-requires-2-clause-fits : goal.line_shape-requires-2-clause-fits
line_shape-requires-2-clause-fits c = c.requires.fits 0

pub returns-clause-shape : goal.returns-clause-shape
returns-clause-shape c =
    let same = same_reading c.args.rest.now.frame c.args.boxes.now.items c.args.rest.now.stretches.now 0 c.args.count (c.requires.none c.if-rest.false) in
    subst (λ (ps : List LinePart). IfOk c.line_shape-2.result (λ shape. IsShape ps shape)) (ap (λ (r : Reading). r.line.parts) same) c.line_shape-2.ensures.shape

pub returns-clause-boxes : goal.returns-clause-boxes
returns-clause-boxes c =
    let same = same_reading c.args.rest.now.frame c.args.boxes.now.items c.args.rest.now.stretches.now 0 c.args.count (c.requires.none c.if-rest.false) in
    subst (λ (bs : List InlineStart). IfOk c.line_shape-2.result (λ _. c.line_shape-2.new.boxes.items ≡ bs)) (ap (λ (r : Reading). r.open_boxes) same) c.line_shape-2.ensures.boxes
