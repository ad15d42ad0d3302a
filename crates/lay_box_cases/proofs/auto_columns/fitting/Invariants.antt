use Rattle.std.proofs.Common.{◌≤◌, length, All}
use Rattle.lay_grid.specs.Automatic.Fit.{BoundFits}
use Rattle.lay_box_cases.proofs.auto_columns.fitting.Given as goal

abbrev pub invariant-loop-bound : goal.invariant-loop-bound
invariant-loop-bound l = record { few : length l.fitting.items ≤ 255; fit : All BoundFits l.fitting.items }
