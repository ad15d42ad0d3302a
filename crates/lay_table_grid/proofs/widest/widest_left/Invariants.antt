use Rattle.std.proofs.Common.{◌+◌}
use Rattle.lay_units.specs.Units.{IsUsedSize}
use Rattle.lay_table_grid.specs.MeetingBorders.{meeting_left}
use Rattle.lay_table_grid.specs.TableBorders.{IsWidest}
use Rattle.lay_table_grid.proofs.widest.widest_left.Given as goal

abbrev pub invariant-loop-k : goal.invariant-loop-k
invariant-loop-k l = record {
  widest : IsWidest (λ k. meeting_left l.edges (l.first + k) l.column) l.k l.widest.0;
  size : IsUsedSize l.widest.0;
}
