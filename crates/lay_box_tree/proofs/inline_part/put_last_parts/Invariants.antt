use Rattle.lay_box_tree.proofs.PartSteps.{PartsTo}
use Rattle.lay_box_tree.proofs.inline_part.put_last_parts.Given as goal

abbrev pub invariant-loop-k : goal.invariant-loop-k
invariant-loop-k l = PartsTo l.boxes l.parts l.k
