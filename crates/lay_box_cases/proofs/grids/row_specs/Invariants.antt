use Rattle.std.proofs.Common.{◌≤◌, length, All}
use Rattle.lay_box_cases.specs.Small.{IsSmallRow}
use Rattle.lay_box_cases.proofs.grids.row_specs.Given as goal

abbrev pub invariant-loop-row : goal.invariant-loop-row
invariant-loop-row l = record { few : length l.rows.items ≤ 255; small : All IsSmallRow l.rows.items }
