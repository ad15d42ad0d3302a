use Rattle.std.proofs.Common.{◌≡◌, ℕ, ◌≤◌, length}
use Rattle.lay_table_grid.specs.Pass.Slots.{entry_at}
use Rattle.lay_table_grid.proofs.slots.reach.Given as goal

abbrev pub invariant-loop : goal.invariant-loop
invariant-loop l = record {
  long : l.counter ≤ length l.row.items;
  same : (c : ℕ) → entry_at l.row.items c ≡ entry_at l.fn.row.items c;
}
