use Rattle.std.proofs.Common.{◌≡◌, length, take}
use Rattle.lay_grid.specs.Automatic.Sizes.{AreSizes}
use Rattle.lay_grid.specs.Automatic.Spread.{AreWidened}
use Rattle.lay_grid.proofs.automatic.spread.widen_all.Given as goal

abbrev pub invariant-loop-cell : goal.invariant-loop-cell
invariant-loop-cell l = record {
  as_many : length l.widths.items ≡ length l.initial.widths.items;
  widened : AreWidened l.fn.spacing.0 (take l.cell-index l.cells) l.initial.widths.items l.widths.items;
  sizes : AreSizes l.widths.items;
}
