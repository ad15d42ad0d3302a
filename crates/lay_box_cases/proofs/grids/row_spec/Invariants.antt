use Rattle.std.proofs.Common.{◌≤◌, length, All}
use Rattle.lay_box_cases.specs.Small.{IsSmallSpan}
use Rattle.lay_box_cases.proofs.grids.row_spec.Given as goal

abbrev pub invariant-loop-word : goal.invariant-loop-word
invariant-loop-word l = record { few : length l.spans.items ≤ 255; small : All IsSmallSpan l.spans.items }
