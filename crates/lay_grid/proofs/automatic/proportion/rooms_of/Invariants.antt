use Rattle.std.proofs.Common.{◌≡◌, ◌+◌, ◌*◌, ◌^◌, ◌≤◌, drop}
use Rattle.lay_grid.specs.Automatic.AutoColumns.{sum_room}
use Rattle.lay_grid.proofs.automatic.proportion.rooms_of.Given as goal

abbrev pub invariant-loop-bound : goal.invariant-loop-bound
invariant-loop-bound l = record {
  value : l.rooms + sum_room (drop l.bound-index l.bounds) ≡ sum_room l.bounds;
  most : l.rooms ≤ 2 ^ 62 * l.bound-index;
}
