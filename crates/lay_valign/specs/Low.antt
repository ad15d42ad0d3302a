-- How far the shape of a line can reach by how deep its parts stand in each other (CSS 2.2, 10.8.1). A raise is held
-- within 2^31 units of 0, so a part stands at most so far from its subtree's root for each part that it stands in.
use Rattle.std.specs.Prelude.{ℕ, ◌+◌, ◌*◌, ◌<◌, ◌≤◌, pos, ◌+ℤ◌, ◌≤ℤ◌, List, ◌∷◌, length, slice_index, All}
use Rattle.lay_units.specs.declared.length.Unit.{Unit}
use Rattle.lay_valign.specs.declared.parts.Part.{Part}
use Rattle.lay_valign.specs.declared.parts.LineShape.{LineShape}
use Rattle.lay_valign.specs.Parts.{part_at, AreParts}
use Rattle.lay_valign.specs.LineShape.{IsShape}
use Rattle.lay_valign.specs.Near.{IsNear}

-- each part but the strut is on a level past that of its parent, and no level is past `depth`: so no part stands in more
-- than `depth` others
pub record LevelsWithin (depth : ℕ) (parts : List Part) : Type 0 where
  pub levels : List ℕ
  pub deeper : (k : ℕ) → 0 < k → k < length parts → slice_index levels (part_at parts k).parent < slice_index levels k
  pub most : (k : ℕ) → k < length parts → slice_index levels k ≤ depth

-- the part's edges are at most `reach` from its baseline, its top at most `up` above it and its bottom `down` below it
pub record PartReaches (reach up down : ℕ) (part : Part) : Type 0 where
  pub near_above : IsNear reach part.above.0
  pub near_below : IsNear reach part.below.0
  pub above : part.above.0 ≤ℤ pos up
  pub below : part.below.0 ≤ℤ pos down

-- of a line whose strut reaches at most so far, whose other parts reach so far, and are raised at most so much in all
pub record ShapeLow (strut reach up down raised : ℕ) (shape : LineShape) : Type 0 where
  pub above : IsNear (strut + up + down + 2 * raised) shape.above.0
  pub below : IsNear (strut + up + down + 2 * raised) shape.below.0
  pub height : IsNear (2 * strut + up + down + 2 * raised) (shape.above.0 +ℤ shape.below.0)
  pub shifts : All (λ (shift : Unit). IsNear (strut + reach + up + down + 4 * raised) shift.0) shape.shifts

abbrev pub ShapesAreLow : Type 0
ShapesAreLow = (strut : Part) (parts : List Part) (shape : LineShape) (s reach up down depth : ℕ)
    → AreParts (strut ∷ parts) → IsShape (strut ∷ parts) shape → LevelsWithin depth (strut ∷ parts)
    → IsNear s strut.above.0 → IsNear s strut.below.0 → All (PartReaches reach up down) parts
    → ShapeLow s reach up down (2147483648 * depth) shape
