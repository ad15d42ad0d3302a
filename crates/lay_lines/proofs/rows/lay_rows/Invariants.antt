use Rattle.std.proofs.Common.{◌≡◌, ℕ, IsFalse, List, [], length, map}
use Rattle.lay_lines.specs.Meeting.{none_met, state_of}
use Rattle.lay_lines.specs.Rows.{OpensNone, Row, RowsTo, position_of, ended_of}
use Rattle.lay_lines.proofs.rows.lay_rows.Given as goal

abbrev pub decreases-loop-alloc : goal.decreases-loop-alloc
decreases-loop-alloc l = length l.rest.stretches.now

abbrev pub invariant-loop-alloc : goal.invariant-loop-alloc
invariant-loop-alloc l =
    (n : ℕ) × (rows : List Row)
    × RowsTo n (record { rows = []; position = position_of l.fn.all.frame l.fn.all.top.0 [] l.fn.all.stretches.now (none_met l.fn.floats) })
    (record { rows = rows; position = position_of l.rest.frame l.rest.top.0 l.boxes.items l.rest.stretches.now (state_of l.floats l.met) })
    × (map ended_of rows ≡ l.rows.items)
    × (IsFalse l.rest.has_boxes → OpensNone l.boxes.items l.rest.stretches.now)
