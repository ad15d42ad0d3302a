-- How far the shape of a line can reach (CSS 2.2, 10.8.1): no further than its strut, and what its other parts can lift.
use Rattle.std.specs.Prelude.{ℕ, suc, ◌+◌, ◌*◌, ℤ, pos, negsuc, neg_ℤ, ◌≤ℤ◌, List, [], ◌∷◌, All}
use Rattle.lay_units.specs.declared.length.Unit.{Unit}
use Rattle.lay_valign.specs.declared.parts.Part.{Part}
use Rattle.lay_valign.specs.declared.parts.LineShape.{LineShape}
use Rattle.lay_valign.specs.Parts.{AreParts}
use Rattle.lay_valign.specs.LineShape.{IsShape}
use Rattle.lay_valign.specs.PartsFit.{length_of}

abbrev pub distance : ℤ → ℕ
distance (pos n) = n
distance (negsuc n) = suc n

-- at most m in absolute value
abbrev pub IsNear : ℕ → ℤ → Type 0
IsNear m v = (neg_ℤ (pos m) ≤ℤ v) × (v ≤ℤ pos m)

-- how much a part can add to the reach of its line, by its own extent and its alignment
abbrev pub lift : Part → ℕ
lift part = distance part.above.0 + distance part.below.0 + distance (length_of part.shift)

abbrev pub lift_of : List Part → ℕ
lift_of [] = 0
lift_of (part ∷ parts) = lift part + lift_of parts

-- of a line whose strut reaches at most so far, and whose other parts have this lift
pub record ShapeNear (strut lift : ℕ) (shape : LineShape) : Type 0 where
  pub above : IsNear (strut + 2 * lift) shape.above.0
  pub below : IsNear (strut + 2 * lift) shape.below.0
  pub shifts : All (λ (shift : Unit). IsNear (strut + 4 * lift) shift.0) shape.shifts

abbrev pub ShapesAreNear : Type 0
ShapesAreNear = (strut : Part) (parts : List Part) (shape : LineShape) (reach : ℕ)
    → AreParts (strut ∷ parts) → IsShape (strut ∷ parts) shape
    → IsNear reach strut.above.0 → IsNear reach strut.below.0 → ShapeNear reach (lift_of parts) shape
