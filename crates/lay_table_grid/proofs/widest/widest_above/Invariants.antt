use Rattle.std.proofs.Common.{◌+◌}
use Rattle.lay_units.specs.Units.{IsUsedSize}
use Rattle.lay_table_grid.specs.MeetingBorders.{meeting_above}
use Rattle.lay_table_grid.specs.TableBorders.{IsWidest}
use Rattle.lay_table_grid.proofs.widest.widest_above.Given as goal

abbrev pub invariant-loop-k : goal.invariant-loop-k
invariant-loop-k l = record {
  widest : IsWidest (λ k. meeting_above l.edges l.row (l.first + k)) l.k l.widest.0;
  size : IsUsedSize l.widest.0;
}
