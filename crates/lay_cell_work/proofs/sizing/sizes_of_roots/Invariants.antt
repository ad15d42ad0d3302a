use Rattle.std.proofs.Common.{◌≡◌, length}
use Rattle.lay_cell_work.specs.CellValues.{Sizes}
use Rattle.lay_cell_work.proofs.RootSteps.{AreRightTo}
use Rattle.lay_cell_work.proofs.sizing.sizes_of_roots.Given as goal

abbrev pub invariant-loop-r : goal.invariant-loop-r
invariant-loop-r l = record {
  count : length l.sizes.items ≡ l.r;
  right : AreRightTo l.input.roots (Sizes l.sizes.items) l.r;
}
