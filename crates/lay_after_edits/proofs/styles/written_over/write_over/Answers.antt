use Rattle.std.proofs.Common.{List, sym, subst}
use Rattle.lay_doc.specs.declared.node.Node.{Node}
use Rattle.lay_doc.specs.Document.{declarations_of, parents_of}
use Rattle.lay_after_edits.specs.Styles.KeptStyles.{KeepsStyles}
use Rattle.lay_after_edits.proofs.StylesLemmas.EditedStyles.{edited_keeps}
use Rattle.lay_after_edits.proofs.StylesLemmas.WrittenStyles.{stretch_stays}
use Rattle.lay_after_edits.proofs.styles.written_over.write_over.Goals as goal

pub write_stretch-requires-clause-kept : goal.write_stretch-requires-clause-kept
write_stretch-requires-clause-kept c =
    subst (λ (nodes : List Node). KeepsStyles (parents_of nodes) (declarations_of nodes) c.args.styles.now.items c.stretch_of-stretch.result) (sym c.nodes-2.ensures.nodes)
    (edited_keeps c.args.doc.now c.args.later.now c.args.edit.now c.stretch_of-stretch.result c.args.styles.now.items
    c.nodes.ensures.valid c.requires.accepted c.requires.later c.stretch_of-stretch.ensures c.requires.styles)

pub write_stretch-requires-clause-stays : goal.write_stretch-requires-clause-stays
write_stretch-requires-clause-stays c = stretch_stays c.args.doc.now c.args.edit.now c.stretch_of-stretch.result c.requires.declares c.stretch_of-stretch.ensures
