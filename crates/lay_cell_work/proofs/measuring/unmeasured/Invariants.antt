use Rattle.std.proofs.Common.{◌≡◌, length}
use Rattle.lay_cell_work.proofs.measuring.unmeasured.Given as goal

abbrev pub invariant-loop-unmeasured : goal.invariant-loop-unmeasured
invariant-loop-unmeasured l = length l.widths.items ≡ l._unmeasured
