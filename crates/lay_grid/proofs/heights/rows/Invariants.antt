use Rattle.std.proofs.Common.{◌≡◌, [], length}
use Rattle.lay_grid.specs.Heights.{AreLowest}
use Rattle.lay_grid.specs.Lengths.{ArePositions}
use Rattle.lay_grid.proofs.heights.rows.Given as goal

abbrev pub invariant-loop-row : goal.invariant-loop-row
invariant-loop-row l = record {
  lowest : AreLowest l.fn.r [] l.heights.items;
  fits : ArePositions l.heights.items;
  as_many : length l.heights.items ≡ l.row;
}
