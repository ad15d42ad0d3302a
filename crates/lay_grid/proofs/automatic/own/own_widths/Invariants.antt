use Rattle.std.proofs.Common.{◌≡◌, ℕ, ◌<◌, length, take}
use Rattle.lay_grid.specs.Shares.{own_at, own_width, width_at}
use Rattle.lay_grid.specs.Automatic.Sizes.{AreSizes}
use Rattle.lay_grid.specs.Automatic.Own.{greatest}
use Rattle.lay_grid.proofs.automatic.own.own_widths.Given as goal

abbrev pub invariant-loop-cell : goal.invariant-loop-cell
invariant-loop-cell l = record {
  as_many : length l.widths.items ≡ length l.given;
  own : (i : ℕ) → i < length l.given → width_at l.widths.items i ≡ greatest (own_width (own_at l.given i)) (take l.cell-index l.cells) i;
  sizes : AreSizes l.widths.items;
}
