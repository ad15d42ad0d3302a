use Rattle.lay_after_edits.specs.Contexts.Changed.{AreAlikeTo}
use Rattle.lay_after_edits.proofs.contexts.alike_nodes.are_alike_nodes.Given as goal

abbrev pub invariant-loop-k : goal.invariant-loop-k
invariant-loop-k l = AreAlikeTo l.of.doc.now.nodes l.of.later.now.nodes l.of.was.now l.of.styles.now l.made l.k
