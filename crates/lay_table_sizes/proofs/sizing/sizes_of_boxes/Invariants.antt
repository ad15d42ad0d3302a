use Rattle.lay_table_sizes.proofs.SizeSteps.{SizesTo}
use Rattle.lay_table_sizes.proofs.sizing.sizes_of_boxes.Given as goal

abbrev pub invariant-loop-k : goal.invariant-loop-k
invariant-loop-k l = SizesTo l.place l.wrapper l.table l.sizes.items l.k
