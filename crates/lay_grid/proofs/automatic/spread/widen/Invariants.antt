use Rattle.std.proofs.Common.{◌≡◌, ℕ, ◌+◌, ◌<◌, ◌≤◌, length, pos, ◌+ℤ◌}
use Rattle.lay_grid.specs.Columns.{part_of}
use Rattle.lay_grid.specs.Shares.{width_at}
use Rattle.lay_grid.specs.Automatic.Sizes.{AreSizes}
use Rattle.lay_grid.proofs.automatic.spread.widen.Given as goal

abbrev pub invariant-loop-k : goal.invariant-loop-k
invariant-loop-k l = record {
  as_many : length l.widths.items ≡ length l.initial.widths.items;
  inside : (j : ℕ) → j < l.k → width_at l.widths.items (l.fn.cell.column + j)
      ≡ (width_at l.initial.widths.items (l.fn.cell.column + j) +ℤ pos (part_of l.lack l.fn.cell.span j));
  before : (i : ℕ) → i < l.fn.cell.column → width_at l.widths.items i ≡ width_at l.initial.widths.items i;
  after : (i : ℕ) → l.fn.cell.column + l.k ≤ i → width_at l.widths.items i ≡ width_at l.initial.widths.items i;
  sizes : AreSizes l.widths.items;
}
