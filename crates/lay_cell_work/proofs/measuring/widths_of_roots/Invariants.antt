use Rattle.std.proofs.Common.{◌≡◌, ◌-◌, length}
use Rattle.lay_cell_work.specs.CellValues.{Widths}
use Rattle.lay_cell_work.proofs.RootSteps.{AreRightFrom}
use Rattle.lay_cell_work.proofs.measuring.widths_of_roots.Given as goal

abbrev pub invariant-loop-done : goal.invariant-loop-done
invariant-loop-done l = record {
  count : length l.widths.items ≡ length l.input.roots;
  right : AreRightFrom l.input.roots (Widths l.widths.items) (length l.input.roots - l.done);
}
