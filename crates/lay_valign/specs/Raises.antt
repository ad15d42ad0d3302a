-- How far `vertical-align` raises the baseline of a box above its parent's (CSS 2.2, 10.8.1).
-- `middle` has one floor: its midpoint stands half the x-height of the parent above the parent's
-- baseline, or up to half a unit below that.
use Rattle.std.specs.Prelude.{ℤ, pos, ◌+ℤ◌, ◌-ℤ◌}
use Rattle.lay_units.specs.Units.{clamp_of, half_of}
use Rattle.lay_valign.specs.declared.parts.Shift.{Shift}
use Rattle.lay_valign.specs.declared.parts.Shift.TheVariants.{By, Middle, TextTop, TextBottom, Top}
use Rattle.lay_valign.specs.declared.parts.Shift.TheVariants.{Bottom}
use Rattle.lay_valign.specs.declared.parts.Part.{Part}

-- so far, for a box that reaches so far above and below its own baseline
abbrev pub raise_by : Shift → ℤ → ℤ → ℤ
raise_by (By length) above below = length.0
raise_by (Middle x_height) above below = half_of (x_height.0 +ℤ (below -ℤ above))
raise_by (TextTop ascent) above below = ascent.0 -ℤ above
raise_by (TextBottom descent) above below = below -ℤ descent.0
raise_by Top above below = pos 0
raise_by Bottom above below = pos 0

-- and held within bounds, as each used length is
abbrev pub raise_of : Part → ℤ
raise_of part = clamp_of (raise_by part.shift part.above.0 part.below.0)
