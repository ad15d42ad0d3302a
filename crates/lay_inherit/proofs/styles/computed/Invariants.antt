use Rattle.lay_doc.specs.Document.{parents_of, declarations_of}
use Rattle.lay_inherit.specs.StylesTo.{StylesTo}
use Rattle.lay_inherit.proofs.styles.computed.Given as goal

abbrev pub invariant-loop-k : goal.invariant-loop-k
invariant-loop-k l = StylesTo (parents_of l.doc.nodes) (declarations_of l.doc.nodes) l.styles.items l.k
