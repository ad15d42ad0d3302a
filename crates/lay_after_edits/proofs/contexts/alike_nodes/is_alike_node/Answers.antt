use Rattle.std.proofs.Common.{◌≡◌, ◌∙◌, ◌<◌, List, ap, arith, length, slice_get, slice_index_or, subst}
use Rattle.lay_style.specs.declared.style.Style.{Style}
use Rattle.lay_style.specs.ComputedStyle.{style_at}
use Rattle.lay_doc.specs.declared.node.Node.{Node}
use Rattle.lay_after_edits.specs.Contexts.Reach.{AreTextsAlike, IsAlike}
use Rattle.lay_after_edits.proofs.ContextsLemmas.AlikeBoxes.{read-there}
use Rattle.lay_after_edits.proofs.contexts.alike_nodes.is_alike_node.Goals as goal

pub returns-then-is_alike : goal.returns-then-is_alike
returns-then-is_alike c = λ alike.
    (let k = c.args.k in
    let here : k < length c.nodes.result.now = omega (arith, c.requires.here, ap length c.nodes.ensures.nodes) in
    let there : k < length c.nodes-then-is_alike.result.now = omega (arith, c.requires.there, ap length c.nodes-then-is_alike.ensures.nodes) in
    record {
      style = subst (λ (s : Style). IsAlike s (style_at c.args.of.now.styles.now k)) c.at.ensures
          (subst (λ (s : Style). IsAlike c.at.result.now s) c.at-2.ensures (c.is_alike.ensures c.if-is_alike.true));
      text = λ n o one other.
          (let read = c.nodes.result.now in
          let other-read = c.nodes-then-is_alike.result.now in
          let a : slice_index_or read k c.index-nodes-k.result ≡ n =
          read-there read k c.index-nodes-k.result n here (ap (λ (ns : List Node). slice_get ns k) c.nodes.ensures.nodes ∙ one) in
          let b : slice_index_or other-read k c.index-nodes-k-then-is_alike.result ≡ o =
          read-there other-read k c.index-nodes-k-then-is_alike.result o there (ap (λ (ns : List Node). slice_get ns k) c.nodes-then-is_alike.ensures.nodes ∙ other) in
          subst (λ (m : Node). AreTextsAlike m.text o.text) a
          (subst (λ (m : Node). AreTextsAlike (slice_index_or read k c.index-nodes-k.result).text m.text) b (c.are_texts_alike.ensures alike)));
    })
