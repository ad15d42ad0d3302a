-- Used sizes are within their bounds.
use Rattle.std.proofs.Common.{arith}
use Rattle.std.proofs.lemmas.Int.{ints}
use Rattle.lay_sizes.specs.SizeBounds.{SizeFits}
use Rattle.lay_sizes.specs.SizeColumns.{no_sizes}

pub no_sizes_fit : SizeFits no_sizes
no_sizes_fit = record {
  margin_left = (omega (arith, ints), omega (arith, ints));
  width = (omega (arith, ints), omega (arith, ints));
  margin_right = (omega (arith, ints), omega (arith, ints));
  top = (omega (arith, ints), omega (arith, ints));
  right = (omega (arith, ints), omega (arith, ints));
  bottom = (omega (arith, ints), omega (arith, ints));
  left = (omega (arith, ints), omega (arith, ints));
  margin_top = (omega (arith, ints), omega (arith, ints));
  margin_bottom = (omega (arith, ints), omega (arith, ints));
  height = tt;
  min_height = (omega (arith, ints), omega (arith, ints));
}
