-- Which parts the shape of a line is asked of: a strut, and parents that stand before; fewer than
-- 2^32 parts; lengths that are positions, and those of the shape too.
use Rattle.std.specs.Prelude.{ℕ, ◌^◌, ◌<◌, ℤ, pos, List, length, All}
use Rattle.lay_units.specs.declared.length.Unit.{Unit}
use Rattle.lay_units.specs.Units.{IsPosition}
use Rattle.lay_valign.specs.declared.parts.Shift.{Shift}
use Rattle.lay_valign.specs.declared.parts.Shift.TheVariants.{By, Middle, TextTop, TextBottom, Top}
use Rattle.lay_valign.specs.declared.parts.Shift.TheVariants.{Bottom}
use Rattle.lay_valign.specs.declared.parts.Part.{Part}
use Rattle.lay_valign.specs.declared.parts.LineShape.{LineShape}
use Rattle.lay_valign.specs.Parts.{part_at, AreParts}
use Rattle.lay_valign.specs.LineShape.{IsShape}

abbrev pub length_of : Shift → ℤ
length_of (By length) = length.0
length_of (Middle x_height) = x_height.0
length_of (TextTop ascent) = ascent.0
length_of (TextBottom descent) = descent.0
length_of Top = pos 0
length_of Bottom = pos 0

pub record PartFits (part : Part) : Type 0 where
  pub above : IsPosition part.above.0
  pub below : IsPosition part.below.0
  pub shift : IsPosition (length_of part.shift)

pub record LineShapeFits (shape : LineShape) : Type 0 where
  pub above : IsPosition shape.above.0
  pub below : IsPosition shape.below.0
  pub shifts : All (λ (shift : Unit). IsPosition shift.0) shape.shifts

pub record PartsFit (parts : List Part) : Type 0 where
  pub are_parts : AreParts parts
  pub few : length parts < 2 ^ 32
  pub each : (k : ℕ) → k < length parts → PartFits (part_at parts k)
  pub shape : (shape : LineShape) → IsShape parts shape → LineShapeFits shape
