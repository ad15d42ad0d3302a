use Rattle.std.proofs.Common.{◌≡◌, ap, arith, length}
use Rattle.std.proofs.lemmas.List.{length-map}
use Rattle.lay_doc.specs.declared.node.Node.{Node}
use Rattle.lay_doc.specs.Document.{parents_of, declarations_of}
use Rattle.lay_inherit.proofs.StyleSteps.{all_known}
use Rattle.lay_inherit.proofs.styles.computed.Goals as goal

pub returns : goal.returns
returns c =
    let nodes = c.args.doc.now.nodes in
    let all : c.loop-k.k ≡ length (parents_of nodes) = omega (arith, length-map nodes (λ (n : Node). n.parent), c.loop-k-test.false, c.loop-k.auto.k-end, ap length c.nodes-nodes.ensures.nodes) in
    rw c.new.ensures (all_known (parents_of nodes) (declarations_of nodes) c.loop-k.styles.items c.loop-k.k all c.loop-k.invariant)
