use Rattle.std.proofs.Common.{◌≤◌, length, All}
use Rattle.lay_grid.specs.Automatic.Sizes.{MayBeSize}
use Rattle.lay_box_cases.specs.Small.{MayBeSmall}
use Rattle.lay_box_cases.proofs.lengths.lengths_or_none.Given as goal

abbrev pub invariant-loop-word : goal.invariant-loop-word
invariant-loop-word l = record {
  few : length l.lengths.items ≤ 255;
  small : All MayBeSmall l.lengths.items;
  sizes : All MayBeSize l.lengths.items;
}
