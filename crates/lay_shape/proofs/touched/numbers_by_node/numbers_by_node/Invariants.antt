use Rattle.std.proofs.Common.{ℕ}
use Rattle.std.specs.BTreeMap.{get}
use Rattle.std.specs.Ordering.{nat_cmp}
use Rattle.lay_shape.specs.Touched.NumbersByNode.{IsNumberOf}
use Rattle.lay_shape.proofs.touched.numbers_by_node.numbers_by_node.Given as goal

abbrev pub invariant-loop-i : goal.invariant-loop-i
invariant-loop-i l = (id : ℕ) → IsNumberOf l.contexts l.i id (get nat_cmp l.numbers id)
