use Rattle.std.proofs.Common.{◌≡◌, ◌∙◌, ◌<◌, List, ap, arith, length, slice_get, slice_index_or, sym}
use Rattle.lay_style.specs.ComputedStyle.{style_at}
use Rattle.lay_doc.specs.declared.node.Node.{Node}
use Rattle.lay_boxgen.specs.Forms.{is_absolute}
use Rattle.lay_boxgen.specs.NodeBoxes.{node_flow}
use Rattle.lay_after_edits.proofs.ContextsLemmas.AlikeBoxes.{read-there}
use Rattle.lay_after_edits.proofs.contexts.anchored.flows_absolutely.Goals as goal

pub returns : goal.returns
returns c = λ t. λ n there.
    (let k = c.args.place in
    let read = c.nodes.result.now in
    let within : k < length read = omega (arith, c.requires.within, ap length c.nodes.ensures.nodes) in
    let here : slice_index_or read k c.index-nodes-place.result ≡ n =
    read-there read k c.index-nodes-place.result n within (ap (λ (ns : List Node). slice_get ns k) c.nodes.ensures.nodes ∙ there) in
    let kind = ap (λ (m : Node). m.kind) here in
    let same = ap (λ (m : Node). m.kind) c.index-nodes-place.is in
    let style = c.at.ensures in
    let of = c.node_flow-flow.ensures in
    let flow : c.node_flow-flow.result ≡ node_flow n.kind (style_at c.args.of.now.was.now k) = cc in
    ap is_absolute (sym flow) ∙ (sym c.is_absolute.ensures ∙ t))
