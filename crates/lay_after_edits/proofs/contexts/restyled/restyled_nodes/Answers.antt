use Rattle.std.proofs.Common.{List, ap, length, subst, sym}
use Rattle.lay_style.specs.declared.style.Style.{Style}
use Rattle.lay_doc.specs.declared.node.Node.{Node}
use Rattle.lay_doc.specs.Document.{declarations_of, parents_of}
use Rattle.lay_after_edits.specs.Contexts.Changed.{KeepsUnmade, StylesStay}
use Rattle.lay_after_edits.proofs.ContextsLemmas.KeptStyles.{made-anew, styles-stay}
use Rattle.lay_after_edits.proofs.contexts.restyled.restyled_nodes.Goals as goal

pub restyled_list-requires-clause-stays : goal.restyled_list-requires-clause-stays
restyled_list-requires-clause-stays c =
    let later = c.args.later.now.nodes in
    subst (λ (nodes : List Node). StylesStay (parents_of nodes) (declarations_of nodes) c.as_slice.result.now c.args.changed.now) (sym c.nodes-2.ensures.nodes)
    (subst (λ (styles : List Style). StylesStay (parents_of later) (declarations_of later) styles c.args.changed.now) (sym c.as_slice.ensures)
    (styles-stay c.args.doc.now.nodes later c.args.was.now c.args.changed.now c.requires.stays c.requires.styles))

pub returns-clause-made : goal.returns-clause-made
returns-clause-made c =
    made-anew c.args.doc.now.nodes c.args.later.now.nodes c.args.was.now c.in_ok-restyled.restyled.styles c.args.changed.now c.in_ok-restyled.restyled.made.items
    (length c.nodes-2.result.now) (ap length c.nodes-2.ensures.nodes) c.requires.stays
    (subst (λ (styles : List Style). KeepsUnmade styles c.in_ok-restyled.restyled.styles c.args.changed.now c.in_ok-restyled.restyled.made.items (length c.nodes-2.result.now))
    c.as_slice.ensures (c.in_ok-restyled.ensures {u = tt}).kept)
