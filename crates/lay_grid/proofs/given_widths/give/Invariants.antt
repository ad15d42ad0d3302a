use Rattle.std.proofs.Common.{◌≡◌, ℕ, ◌+◌, ◌<◌, ◌≤◌, length, Some, pos}
use Rattle.std.specs.List.{All}
use Rattle.lay_grid.specs.Shares.{own_at}
use Rattle.lay_grid.specs.Lengths.{MayBePosition}
use Rattle.lay_grid.specs.Columns.{or_else, part_of}
use Rattle.lay_grid.proofs.given_widths.give.Given as goal

abbrev pub invariant-loop-k : goal.invariant-loop-k
invariant-loop-k l = record {
  as_many : length l.owns.items ≡ length l.initial.owns.items;
  inside : (j : ℕ) → j < l.k
      → own_at l.owns.items (l.fn.cell.column + j) ≡ or_else (own_at l.initial.owns.items (l.fn.cell.column + j))
      (Some (record { 0 = pos (part_of l.width l.fn.cell.span j) }));
  before : (i : ℕ) → i < l.fn.cell.column → own_at l.owns.items i ≡ own_at l.initial.owns.items i;
  after : (i : ℕ) → l.fn.cell.column + l.k ≤ i → own_at l.owns.items i ≡ own_at l.initial.owns.items i;
  fits : All MayBePosition l.owns.items;
}
