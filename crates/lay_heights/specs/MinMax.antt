-- Minimum and maximum heights (CSS 2.2, 10.7), in the three steps of the standard.
use Rattle.std.specs.Prelude.{ℤ, Option, Some, None, int_lt, if◌then◌else◌}
use Rattle.lay_units.specs.declared.length.Unit.{Unit}

-- a height, or the maximum where the height is greater than that
abbrev pub at_most_max : ℤ → Option Unit → ℤ
at_most_max height None = height
at_most_max height (Some max) = if int_lt max.0 height then max.0 else height

-- a height, or the minimum where the height is less than that
abbrev pub at_least_min : ℤ → ℤ → ℤ
at_least_min height min = if int_lt height min then min else height

-- the tentative height, bounded by the maximum first and by the minimum then
abbrev pub with_min_max_of : ℤ → ℤ → Option Unit → ℤ
with_min_max_of height min max = at_least_min (at_most_max height max) min
