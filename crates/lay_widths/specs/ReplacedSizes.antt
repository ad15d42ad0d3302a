-- Used sizes of replaced elements (CSS 2.2, 10.3.2 and 10.6.2, with the bounds of 10.4 and 10.7). Each has two
-- natural sizes, whose ratio is its natural ratio: a size that is auto beside a given one follows from that by the
-- ratio, and where both are auto the natural sizes count, within the bounds by the table of 10.4. Quotients are
-- rounded down. In 300 by 150 units with a max-width of 200 and nothing else, the table gives 200 by 100.
use Rattle.std.specs.Prelude.{◌≡◌, ℤ, pos, ◌*ℤ◌, int_le, int_lt, Bool, Option, Some, None, option_map, if◌then◌else◌}
use Rattle.std.specs.Int.{int_min, int_max, int_div_euclid}
use Rattle.lay_units.specs.Units.{clamp_size_of}
use Rattle.lay_units.specs.declared.length.Unit.{Unit}
use Rattle.lay_units.specs.declared.records.Len.{Len}
use Rattle.lay_units.specs.declared.records.Len.TheVariants.{Auto as auto, Of as of}
use Rattle.lay_heights.specs.MinMax.{with_min_max_of}
use Rattle.lay_widths.specs.declared.replaced.ReplacedIn.{ReplacedIn}
use Rattle.lay_widths.specs.declared.replaced.ReplacedSize.{ReplacedSize}
use Rattle.lay_widths.specs.declared.replaced.Sizes.{Sizes}
use Rattle.lay_widths.specs.declared.replaced.Violation.{Violation}
use Rattle.lay_widths.specs.declared.replaced.Violation.TheVariants.{Above as above, Below as below, Within as within}

-- a natural size, which is from 1 unit on
abbrev pub natural_length : Unit → Unit
natural_length u = record { 0 = int_max (pos 1) (clamp_size_of u.0) }

-- the sizes that go with each other by the natural ratio
abbrev pub height_beside : ReplacedIn → ℤ → ℤ
height_beside r width = int_div_euclid (width *ℤ r.natural_height.0) r.natural_width.0

abbrev pub width_beside : ReplacedIn → ℤ → ℤ
width_beside r height = int_div_euclid (height *ℤ r.natural_width.0) r.natural_height.0

-- the maximum, which is at least the minimum in the table
abbrev pub greatest_of : Unit → Option Unit → Option ℤ
greatest_of min max = option_map (λ (m : Unit). int_max min.0 m.0) max

-- a size that is no greater than the maximum, where there is one
abbrev pub at_most : Option ℤ → ℤ → ℤ
at_most None v = v
at_most (Some max) v = int_min max v

-- whether a size is above its maximum or below its minimum; with the bound that is violated
abbrev pub above_or : Option ℤ → ℤ → Violation → Violation
above_or None v other = other
above_or (Some max) v other = if int_lt max v then above max else other

abbrev pub violation_of : Unit → Option Unit → ℤ → Violation
violation_of min max v = above_or (greatest_of min max) v (if int_lt v min.0 then below min.0 else within)

-- a size brought to a bound of its width or its height, with the other beside it by the ratio: one that shrinks
-- goes no further than its minimum, one that grows no further than its maximum
abbrev pub shrunk_to_width : ReplacedIn → ℤ → Sizes
shrunk_to_width r width = record { width = width; height = int_max (height_beside r width) r.min_height.0 }

abbrev pub grown_to_width : ReplacedIn → ℤ → Sizes
grown_to_width r width =
    record { width = width; height = at_most (greatest_of r.min_height r.max_height) (height_beside r width) }

abbrev pub shrunk_to_height : ReplacedIn → ℤ → Sizes
shrunk_to_height r height = record { width = int_max (width_beside r height) r.min_width.0; height = height }

abbrev pub grown_to_height : ReplacedIn → ℤ → Sizes
grown_to_height r height =
    record { width = at_most (greatest_of r.min_width r.max_width) (width_beside r height); height = height }

-- whether a width is at most as much of the natural width as a height is of the natural height
abbrev pub is_less_of : ReplacedIn → ℤ → ℤ → Bool
is_less_of r width height = int_le (width *ℤ r.natural_height.0) (height *ℤ r.natural_width.0)

-- the table of 10.4, by what the natural width and the natural height violate
abbrev pub sizes_of : ReplacedIn → Violation → Violation → Sizes
sizes_of r within within = record { width = r.natural_width.0; height = r.natural_height.0 }
sizes_of r (above width) within = shrunk_to_width r width
sizes_of r (below width) within = grown_to_width r width
sizes_of r within (above height) = shrunk_to_height r height
sizes_of r within (below height) = grown_to_height r height
sizes_of r (above width) (above height) =
    if is_less_of r width height then shrunk_to_width r width else shrunk_to_height r height
sizes_of r (below width) (below height) =
    if is_less_of r width height then grown_to_height r height else grown_to_width r width
sizes_of r (below width) (above height) = record { width = width; height = height }
sizes_of r (above width) (below height) = record { width = width; height = height }

-- a given width and a given height, each within its bounds
abbrev pub given_width_of : ReplacedIn → Unit → ℤ
given_width_of r width = with_min_max_of width.0 r.min_width.0 r.max_width

abbrev pub given_height_of : ReplacedIn → Unit → ℤ
given_height_of r height = with_min_max_of height.0 r.min_height.0 r.max_height

-- the sizes before they are held: by the ratio where one is auto, by the table where both are
abbrev pub sizes_for : ReplacedIn → Len → Len → Sizes
sizes_for r (of width) (of height) = record { width = given_width_of r width; height = given_height_of r height }
sizes_for r (of width) auto =
    record {
      width = given_width_of r width;
      height = with_min_max_of (height_beside r (given_width_of r width)) r.min_height.0 r.max_height;
    }
sizes_for r auto (of height) =
    record {
      width = with_min_max_of (width_beside r (given_height_of r height)) r.min_width.0 r.max_width;
      height = given_height_of r height;
    }
sizes_for r auto auto =
    sizes_of r (violation_of r.min_width r.max_width r.natural_width.0)
    (violation_of r.min_height r.max_height r.natural_height.0)

-- the used size of a replaced element
pub record IsReplacedSize (r : ReplacedIn) (out : ReplacedSize) : Type 0 where
  pub width : out.width.0 ≡ clamp_size_of (sizes_for r r.width r.height).width
  pub height : out.height.0 ≡ clamp_size_of (sizes_for r r.width r.height).height
