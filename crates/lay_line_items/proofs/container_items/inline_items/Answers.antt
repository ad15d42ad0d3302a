use Rattle.std.proofs.Common.{◌≡◌, ◌<◌, ap, get_or, arith, rules}
use Rattle.lay_line_items.proofs.OpenInlines.{over, parent_at}
use Rattle.lay_line_items.proofs.container_items.inline_items.Goals as goal

pub all_items-requires-clause-over : goal.all_items-requires-clause-over
all_items-requires-clause-over c = λ q low high.
    let boxes = c.args.boxes.now in
    let k = c.loop-place.place in
    let at = parent_at boxes k c.index-boxes-place.result (omega (arith, c.loop-place-test.true)) c.index-boxes-place.is in
    let own : c.index-boxes-place.result.parent ≡ (get_or boxes k c.index-boxes-place.result).parent = ap (λ b. b.parent) c.index-boxes-place.is in
    let less : (get_or boxes k c.index-boxes-place.result).parent < c.loop-place.below.container = search rules in
    over boxes c.requires.tree k q (omega (arith, c.loop-place-test.true)) (omega (arith, at, own, less, low)) high
