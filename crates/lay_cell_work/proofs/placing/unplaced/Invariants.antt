use Rattle.std.proofs.Common.{◌≡◌, length}
use Rattle.lay_cell_work.proofs.placing.unplaced.Given as goal

abbrev pub invariant-loop-known : goal.invariant-loop-known
invariant-loop-known l = length l.places.items ≡ l._known
