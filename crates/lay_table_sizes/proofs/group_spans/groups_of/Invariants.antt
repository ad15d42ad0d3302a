use Rattle.std.proofs.Common.{◌≡◌, ◌++◌, drop, map}
use Rattle.lay_table_grid.specs.MeetingBorders.{around_column}
use Rattle.lay_table_sizes.proofs.group_spans.groups_of.Given as goal

abbrev pub invariant-loop-place : goal.invariant-loop-place
invariant-loop-place l = l.groups.items ++ map (around_column l.boxes) (drop l.place-index l.places) ≡ map (around_column l.boxes) l.places
