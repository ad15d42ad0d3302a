-- A box has one set of used sizes beside its containing block, and they are within their bounds.
use Rattle.std.specs.Prelude.{◌≡◌}
use Rattle.lay_style.specs.declared.style.Style.{Style}
use Rattle.lay_sizes.specs.declared.sizing.BoxSizes.{BoxSizes}
use Rattle.lay_sizes.specs.declared.sizing.ContainingBlock.{ContainingBlock}
use Rattle.lay_sizes.specs.declared.sizing.WidthRule.{WidthRule}
use Rattle.lay_sizes.specs.BoxSizes.{IsSized}
use Rattle.lay_sizes.specs.SizeBounds.{SizeFits}

abbrev pub OneBoxSizes : Type 0
OneBoxSizes = (containing : ContainingBlock) (rule : WidthRule) (s : Style) (y z : BoxSizes)
    → IsSized containing rule s y → IsSized containing rule s z → y ≡ z

abbrev pub SizesFit : Type 0
SizesFit = (containing : ContainingBlock) (rule : WidthRule) (s : Style) (z : BoxSizes) → IsSized containing rule s z → SizeFits z
