use Rattle.lay_doc.specs.Document.{declarations_of, parents_of}
use Rattle.lay_after_edits.proofs.StylesLemmas.WrittenStyles.{WrittenTo}
use Rattle.lay_after_edits.proofs.styles.written_over.write_stretch.Given as goal

abbrev pub invariant-loop-k : goal.invariant-loop-k
invariant-loop-k l = WrittenTo (parents_of l.nodes) (declarations_of l.nodes) l.fn.styles.items l.fn.stretch.from l.styles.items l.k
