use Rattle.std.proofs.Common.{◌≡◌, drop, ◌+◌, ◌≤◌}
use Rattle.lay_grid.specs.Pass.Sharing.{count_takers}
use Rattle.lay_grid.proofs.shares.takers_of.Given as goal

abbrev pub invariant-loop-own : goal.invariant-loop-own
invariant-loop-own l = record {
  count : l.takers + count_takers l.all (drop l.own-index l.owns) ≡ count_takers l.all l.owns;
  below : l.takers ≤ l.own-index;
}
