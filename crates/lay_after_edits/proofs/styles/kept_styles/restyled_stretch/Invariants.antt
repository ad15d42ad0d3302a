use Rattle.lay_doc.specs.Document.{declarations_of, parents_of}
use Rattle.lay_inherit.specs.StylesTo.{StylesTo}
use Rattle.lay_after_edits.proofs.styles.kept_styles.restyled_stretch.Given as goal

abbrev pub invariant-loop-k : goal.invariant-loop-k
invariant-loop-k l = StylesTo (parents_of l.nodes) (declarations_of l.nodes) l.styles.items l.k
