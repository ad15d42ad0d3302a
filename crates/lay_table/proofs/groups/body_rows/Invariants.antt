use Rattle.std.proofs.Common.{◌≡◌, length}
use Rattle.lay_table.specs.GroupCounts.{AreBodyRows}
use Rattle.lay_table.proofs.groups.body_rows.Given as goal

abbrev pub invariant-loop-n : goal.invariant-loop-n
invariant-loop-n l = record {
  count : length l.body.items ≡ l.count;
  each : AreBodyRows l.outer l.rows l.n l.body.items;
}
