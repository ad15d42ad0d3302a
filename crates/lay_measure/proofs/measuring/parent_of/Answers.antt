use Rattle.std.proofs.Common.{◌≡◌, arith, get_or, ap}
use Rattle.lay_box_tree.proofs.BoxForests.{length-parents}
use Rattle.lay_measure.proofs.ChildrenBefore.{parent_at}
use Rattle.lay_measure.proofs.measuring.parent_of.Goals as goal

pub returns-clause-before : goal.returns-clause-before
returns-clause-before c =
    let boxes = c.args.boxes.now in
    let k = c.args.k in
    let b = c.index-boxes-k.result in
    let len = length-parents boxes in
    let less = c.requires.tree.before k c.requires.later (omega (arith, len, c.requires.inside)) in
    let at = parent_at boxes k b c.requires.inside in
    let own : b.parent ≡ (get_or boxes k b).parent = ap (λ x. x.parent) c.index-boxes-k.is in
    omega (arith, less, at, own)
