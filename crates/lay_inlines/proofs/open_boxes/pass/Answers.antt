use Rattle.std.proofs.Common.{◌∙◌, ◌+◌, List, ℕ, drop, get_or, ap, sym, rules}
use Rattle.lay_lines.specs.declared.content.content.Part.{Part}
use Rattle.lay_inlines.specs.OpenBoxes.{open_after}
use Rattle.lay_inlines.specs.Strokes.{parts_of}
use Rattle.lay_inlines.proofs.Content.{parts_more}
use Rattle.lay_inlines.proofs.OpenBoxSteps.{open_after-append}
use Rattle.lay_inlines.proofs.open_boxes.pass.Goals as goal

pub loop-k-preserved : goal.loop-k-preserved
loop-k-preserved c =
    let here = get_or c.args.stretches.now c.loop-k.k c.index-stretches-k.result in
    let rest = parts_of (drop (c.loop-k.k + 1) c.args.stretches.now) in
    let passed = c.in_ok-pass_parts.ensures ∙ ap (λ (xs : List Part). open_after c.loop-k.open_boxes.items xs) c.as_slice.ensures in
    ap (λ (ns : List ℕ). open_after ns rest) passed ∙ sym (open_after-append c.loop-k.open_boxes.items here.parts rest)
    ∙ ap (λ (xs : List Part). open_after c.loop-k.open_boxes.items xs) (sym (parts_more c.args.stretches.now c.loop-k.k c.index-stretches-k.result (search rules)))
    ∙ c.loop-k.invariant
