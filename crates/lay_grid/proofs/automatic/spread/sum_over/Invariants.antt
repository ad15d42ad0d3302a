use Rattle.std.proofs.Common.{◌≡◌, ◌+◌, ◌-◌, ◌*◌, ◌^◌, pos, ◌+ℤ◌, ◌≤ℤ◌}
use Rattle.lay_grid.specs.Automatic.Spread.{sum_over}
use Rattle.lay_grid.proofs.automatic.spread.sum_over.Given as goal

abbrev pub invariant-loop-k : goal.invariant-loop-k
invariant-loop-k l = record {
  value : (l.sum +ℤ sum_over l.widths (l.fn.column + l.k) (l.fn.count - l.k)) ≡ sum_over l.widths l.fn.column l.fn.count;
  least : pos 0 ≤ℤ l.sum;
  most : l.sum ≤ℤ pos (2 ^ 62 * l.k);
}
