use Rattle.std.proofs.Common.{ap, arith, refl, sym}
use Rattle.lay_line_items.specs.InlineItems.{text_of}
use Rattle.lay_line_items.proofs.OneText.{one_text_in}
use Rattle.lay_line_items.proofs.one_text.one_text.Goals as goal

pub returns : goal.returns
returns c =
    rw c.in_ok-copy.ensures
    (one_text_in c.args.face.now c.args.boxes.now c.args.container c.index-boxes-place.result c.in-Text.text c.mode_of-mode.result _ (omega (arith, c.if-place-boxes.false))
    c.index-boxes-place.is (c.if-not-is_text_in.ensures.parent refl) (c.if-not-is_text_in.ensures.role refl) (c.if-not-ends_before.ensures refl) (sym (ap text_of c.in-Text.is)) c.mode_of-mode.ensures
    (rw (c.in-Some.is, c.as_str.ensures) at c.in_ok-found.ensures.stays) (rw (c.in-Some.is, c.as_str.ensures) at c.in_ok-found.ensures.widths))
