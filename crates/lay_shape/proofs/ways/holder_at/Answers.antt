use Rattle.std.proofs.Common.{rules, ◌≡◌, List, subst}
use Rattle.lay_box_tree.specs.declared.box_tree.BoxNode.{BoxNode}
use Rattle.lay_contexts.specs.Contexts.{boxes_in}
use Rattle.lay_positioned.specs.Holders.{IsHolderFor, holder_for}
use Rattle.lay_shape.proofs.Cited.{holder_is, one_holder_for}
use Rattle.lay_shape.proofs.ways.holder_at.Goals as goal

pub returns : goal.returns
returns c =
    let boxes : List BoxNode = boxes_in c.args.contexts.now c.args.i in
    let is : c.boxes.result.now ≡ boxes = search rules in
    let held = subst (λ (bs : List BoxNode). IsHolderFor c.args.is_fixed bs c.args.k c.holder_for.result) is c.holder_for.ensures.holder in
    one_holder_for c.args.is_fixed boxes c.args.k c.holder_for.result (holder_for c.args.is_fixed boxes c.args.k) held
    (holder_is boxes (c.at.ensures.are.boxes c.args.i c.requires.within).tree c.args.is_fixed c.args.k c.requires.place)
