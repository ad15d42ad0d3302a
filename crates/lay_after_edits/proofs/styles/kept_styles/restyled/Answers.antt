use Rattle.std.proofs.Common.{List, sym, subst}
use Rattle.lay_doc.specs.declared.node.Node.{Node}
use Rattle.lay_doc.specs.Document.{declarations_of, parents_of}
use Rattle.lay_after_edits.specs.Styles.KeptStyles.{KeepsStyles}
use Rattle.lay_after_edits.proofs.StylesLemmas.EditedStyles.{edited_keeps}
use Rattle.lay_after_edits.proofs.styles.kept_styles.restyled.Goals as goal

pub restyled_stretch-requires-clause-kept : goal.restyled_stretch-requires-clause-kept
restyled_stretch-requires-clause-kept c =
    subst (λ (nodes : List Node). KeepsStyles (parents_of nodes) (declarations_of nodes) c.args.was.now c.stretch_of-stretch.result) (sym c.nodes-2.ensures.nodes)
    (edited_keeps c.args.doc.now c.args.later.now c.args.edit.now c.stretch_of-stretch.result c.args.was.now
    c.nodes.ensures.valid c.requires.accepted c.requires.later c.stretch_of-stretch.ensures c.requires.styles)
