-- A viewport of used sizes.
use Rattle.lay_units.specs.Units.{IsUsedSize}
use Rattle.lay_sizes.specs.declared.sizing.ContainingBlock.{ContainingBlock}
use Rattle.lay_sizes.specs.UsedLengths.{or_zero}

pub record ViewportFits (viewport : ContainingBlock) : Type 0 where
  pub width : IsUsedSize viewport.width.0
  pub height : IsUsedSize (or_zero viewport.height).0
