-- How wide collapsed borders are drawn, and whose box which part of them belongs to (CSS 2.2, 17.6.2).
-- A border is centered on the line between two slots: half of its width lies on each side. Of an odd
-- width the floor of the half lies on the left or the top side.
use Rattle.std.specs.Prelude.{ℤ, pos, ◌-ℤ◌, Option, Some, None}
use Rattle.lay_units.specs.Units.{half_of}
use Rattle.lay_borders.specs.declared.candidate.BorderStyle.{BorderStyle}
use Rattle.lay_borders.specs.declared.candidate.BorderStyle.TheVariants.{None as none}
use Rattle.lay_borders.specs.declared.candidate.BorderStyle.TheVariants.{Hidden as hidden}
use Rattle.lay_borders.specs.declared.candidate.Cand.{Cand}

-- a border of the style `none` or `hidden` isn't drawn
abbrev pub drawn_width : BorderStyle → ℤ → ℤ
drawn_width none width = pos 0
drawn_width hidden width = pos 0
drawn_width _ width = width

abbrev pub edge_width : Option Cand → ℤ
edge_width None = pos 0
edge_width (Some border) = drawn_width border.style border.width.0

-- the halves of a width, on the left or top side and on the right or bottom side
abbrev pub first_half : ℤ → ℤ
first_half width = half_of width

abbrev pub second_half : ℤ → ℤ
second_half width = width -ℤ half_of width
