use Rattle.std.proofs.Common.{◌≡◌, ◌++◌, drop, map}
use Rattle.lay_table_grid.specs.MeetingBorders.{around_column}
use Rattle.lay_table_grid.proofs.groups.all_around.Given as goal

abbrev pub invariant-loop-place : goal.invariant-loop-place
invariant-loop-place l =
    l.groups.items ++ map (around_column l.boxes) (drop l.place-index l.column_boxes) ≡ map (around_column l.boxes) l.column_boxes
