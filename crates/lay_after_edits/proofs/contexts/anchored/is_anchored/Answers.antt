use Rattle.std.proofs.Common.{rules, ◌≡◌, true, is_some}
use Rattle.lay_after_edits.proofs.ContextsLemmas.AnchoredContexts.{anchored-at, context-listed}
use Rattle.lay_after_edits.proofs.contexts.anchored.is_anchored.Goals as goal

pub returns : goal.returns
returns c = λ t.
    (let some : is_some c.number_at.result ≡ true = search rules in
    let nodes = c.args.of.now.doc.now.nodes in
    let styles = c.args.of.now.was.now in
    anchored-at c.args.of.now.edit.now nodes styles c.args.place (c.is_style_edit.ensures c.if-not-is_style_edit.false) (c.flows_absolutely.ensures c.if-not-flows_absolutely.false)
    (context-listed nodes styles c.args.places.now c.args.place c.requires.places c.number_at.result c.number_at.ensures.some some))
