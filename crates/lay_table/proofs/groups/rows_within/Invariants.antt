use Rattle.std.proofs.Common.{◌≡◌, length}
use Rattle.lay_table.specs.GroupCounts.{AreRowsWithin}
use Rattle.lay_table.proofs.groups.rows_within.Given as goal

abbrev pub invariant-loop-n : goal.invariant-loop-n
invariant-loop-n l = record {
  count : length l.within.items ≡ l.count;
  each : AreRowsWithin l.rows l.n l.within.items;
}
