use Rattle.std.proofs.Common.{ap, arith}
use Rattle.std.proofs.lemmas.Bool.{ltb-true}
use Rattle.lay_line_items.proofs.OpenInlines.{over, parent_at}
use Rattle.lay_line_items.proofs.one_text.ends_before.Goals as goal

pub returns-else-place-boxes : goal.returns-else-place-boxes
returns-else-place-boxes c = λ e.
    let boxes = c.args.boxes.now in
    let k = c.args.place in
    let at = parent_at boxes k c.index-boxes-place.result (omega (arith, c.if-place-boxes.false)) c.index-boxes-place.is in
    let own = ap (λ b. b.parent) c.index-boxes-place.is in
    let less = ltb-true _ _ e in
    over boxes c.requires.tree k c.args.container (omega (arith, c.if-place-boxes.false)) (omega (arith, at, own, less)) c.requires.behind
