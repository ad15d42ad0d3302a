use Rattle.std.proofs.Common.{◌≡◌, ◌-◌, length}
use Rattle.lay_cell_work.specs.CellValues.{Places}
use Rattle.lay_cell_work.proofs.RootSteps.{AreRightFrom}
use Rattle.lay_cell_work.proofs.placing.places_of_roots.Given as goal

abbrev pub invariant-loop-done : goal.invariant-loop-done
invariant-loop-done l = record {
  count : length l.places.items ≡ length l.input.roots;
  right : AreRightFrom l.input.roots (Places l.places.items) (length l.input.roots - l.done);
}
