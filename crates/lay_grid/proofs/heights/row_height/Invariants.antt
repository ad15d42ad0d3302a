use Rattle.lay_units.specs.Units.{IsWithinPower}
use Rattle.lay_grid.proofs.HeightSteps.{HeightTo}
use Rattle.lay_grid.proofs.heights.row_height.Given as goal

abbrev pub invariant-loop-need : goal.invariant-loop-need
invariant-loop-need l = record {
  known : HeightTo l.r l.above l.needs l.need-index l.height;
  within : IsWithinPower 104 l.height;
}
