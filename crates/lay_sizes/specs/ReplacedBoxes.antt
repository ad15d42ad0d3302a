-- The used size of the box of a replaced element beside its containing block (CSS 2.2, 10.3.2, 10.3.4, 10.4, 10.6.2
-- and 10.7): percentages are of the containing block, those of heights where its height doesn't depend on what is in
-- it. Natural sizes are from 1 unit on. An image of 300 by 150 px whose `width` is 50% beside 200 px is 100 by 50 px.
use Rattle.lay_units.specs.Units.{clamp_size_of}
use Rattle.lay_style.specs.declared.style.Style.{Style}
use Rattle.lay_widths.specs.declared.replaced.ReplacedIn.{ReplacedIn}
use Rattle.lay_widths.specs.declared.replaced.ReplacedSize.{ReplacedSize}
use Rattle.lay_widths.specs.ReplacedSizes.{sizes_for, natural_length}
use Rattle.lay_sizes.specs.declared.sizing.ContainingBlock.{ContainingBlock}
use Rattle.lay_sizes.specs.declared.replaced.NaturalSize.{NaturalSize}
use Rattle.lay_sizes.specs.UsedLengths.{used_width, used_size, used_limit, used_height, used_min_height, used_max_height}

-- what the used size of a replaced element depends on
abbrev pub replaced_of : ContainingBlock → NaturalSize → Style → ReplacedIn
replaced_of containing natural s = record {
  natural_width = natural_length natural.width;
  natural_height = natural_length natural.height;
  width = used_width containing.width s.sizing.width;
  height = used_height containing.height s.sizing.height;
  min_width = used_size containing.width s.sizing.min_width;
  max_width = used_limit containing.width s.sizing.max_width;
  min_height = used_min_height containing.height s.sizing.min_height;
  max_height = used_max_height containing.height s.sizing.max_height;
}

-- its used size
abbrev pub size_in : ReplacedIn → ReplacedSize
size_in r = record {
  width = record { 0 = clamp_size_of (sizes_for r r.width r.height).width };
  height = record { 0 = clamp_size_of (sizes_for r r.width r.height).height };
}

abbrev pub replaced_size_of : ContainingBlock → NaturalSize → Style → ReplacedSize
replaced_size_of containing natural s = size_in (replaced_of containing natural s)
