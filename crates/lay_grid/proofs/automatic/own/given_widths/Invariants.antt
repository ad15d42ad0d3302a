use Rattle.std.proofs.Common.{◌≡◌, ℕ, ◌<◌, length}
use Rattle.lay_grid.specs.Shares.{own_at, own_width, width_at}
use Rattle.lay_grid.specs.Automatic.Sizes.{AreSizes}
use Rattle.lay_grid.proofs.automatic.own.given_widths.Given as goal

abbrev pub invariant-loop-own : goal.invariant-loop-own
invariant-loop-own l = record {
  as_many : length l.widths.items ≡ l.own-index;
  own : (i : ℕ) → i < l.own-index → width_at l.widths.items i ≡ own_width (own_at l.given i);
  sizes : AreSizes l.widths.items;
}
