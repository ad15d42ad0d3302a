use Rattle.std.proofs.Common.{◌≡◌, ℕ, ◌<◌, ◌≤◌, length}
use Rattle.lay_table_grid.specs.MeetingBorders.{covers}
use Rattle.lay_table_grid.specs.Pass.Slots.{first_present, only_if, row_at, slot_at}
use Rattle.lay_table_grid.proofs.slots.cover_cell.Given as goal

abbrev pub invariant-loop-row : goal.invariant-loop-row
invariant-loop-row l = record {
  as_many : length l.slots.items ≡ length l.initial.slots.items;
  above : (r c : ℕ) → r < l.row → r < length l.initial.slots.items
      → slot_at l.slots.items r c ≡ first_present (slot_at l.initial.slots.items r c) (only_if (covers l.placed r c) l.k);
  below : (r : ℕ) → l.row ≤ r → row_at l.slots.items r ≡ row_at l.initial.slots.items r;
}
