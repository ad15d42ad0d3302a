use Rattle.lay_after_edits.specs.Styles.WrittenOver.{AreSameOutside}
use Rattle.lay_after_edits.proofs.styles.written_over.follow_part.Given as goal

abbrev pub invariant-loop-k : goal.invariant-loop-k
invariant-loop-k l = AreSameOutside l.styles.items l.later (record { from = l.k; until = l.fn.part.until })
