use Rattle.lay_doc.specs.Document.{declarations_of, parents_of}
use Rattle.lay_inherit.specs.StylesTo.{StylesTo}
use Rattle.lay_after_edits.specs.Contexts.Changed.{KeepsUnmade}
use Rattle.lay_after_edits.proofs.contexts.restyled.restyled_list.Given as goal

abbrev pub invariant-loop-k : goal.invariant-loop-k
invariant-loop-k l = record {
  styles : StylesTo (parents_of l.nodes) (declarations_of l.nodes) l.styles.items l.k;
  keeps : KeepsUnmade l.was l.styles.items l.changed l.made.items l.k;
}
