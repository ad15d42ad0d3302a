-- Floats, solid boxes and lines that are placed up to a place among the boxes, as a pass over a context has them.
use Rattle.std.specs.Prelude.{ℕ, ◌≡◌, ◌+◌, ◌*◌, ◌<◌, ℤ, pos, ◌+ℤ◌, ◌-ℤ◌, true, false, List, length, Some, None, All}
use Rattle.lay_flow.specs.declared.blocks.flow_box.FlowBox.{FlowBox}
use Rattle.lay_units.specs.declared.length.Unit.{Unit as Length}
use Rattle.lay_floats.specs.declared.placed.Placed.{Placed}
use Rattle.lay_floats.specs.declared.requests.Side.{Side}
use Rattle.lay_lines.specs.Lines.{LinesWithin}
use Rattle.lay_floats.specs.FloatPlace.{IsFloatPlace}
use Rattle.lay_floats.specs.SolidPlace.{IsSolidPlace}
use Rattle.lay_floats.specs.Within.{BoxWithin, IsWithin}
use Rattle.lay_flow.specs.Blocks.Lengths.{length_at}
use Rattle.lay_flow.specs.Blocks.MarginRuns.{block_at}
use Rattle.lay_flow.specs.Blocks.BlockPositions.{is_lines, is_solid}
use Rattle.lay_flow.specs.Blocks.BlockFloats.{AreLinesAt, Spot, spot_at, shape_at, place_at, no_place, lines_at}
use Rattle.lay_flow.specs.Blocks.BlockFloats.{no_lines, floats_before, float_request, solid_request, ceiling}
use Rattle.lay_flow.specs.Blocks.Weights.{weight}
use Rattle.lay_flow.specs.Pass.Bounds.{reach}

-- what a pass keeps of floats, solid boxes and lines: the depths of the boxes, as far as they are known, the floats that
-- stand, and the spots so far
pub record Placing : Type 0 where
  pub extents : List Length
  pub floats : List Placed
  pub places : List Spot

-- a spot that boxes of this weight reach at most
pub record IsPlaceNear (w : ℕ) (p : Spot) : Type 0 where
  pub x : IsWithin (reach w) p.place.x.0
  pub y : IsWithin (reach w) p.place.y.0
  pub lines : LinesWithin (reach w) p.lines

-- the boxes before the one at n are placed
pub record PlacesTo (boxes : List FlowBox) (marks : List Length) (now : Placing) (n : ℕ) : Type 0 where
  pub places_length : length now.places ≡ n
  pub extents_length : length now.extents ≡ length boxes
  pub floats_are : now.floats ≡ floats_before boxes now.places n
  pub within : All (BoxWithin (reach (weight boxes n))) now.floats
  pub near : (k : ℕ) → k < n → IsPlaceNear (weight boxes n) (spot_at now.places k)
  pub root : 0 < n → place_at now.places 0 ≡ no_place
  pub float : (k : ℕ) (side : Side) → 0 < k → k < n → (shape_at boxes k).float ≡ Some side
      → IsFloatPlace (floats_before boxes now.places k) (float_request (shape_at boxes k) side (ceiling boxes marks k))
      (place_at now.places k).x.0 (place_at now.places k).y.0
  pub solid : (k : ℕ) → 0 < k → k < n → is_solid (block_at boxes k).inside ≡ true
      → IsSolidPlace (floats_before boxes now.places k) (solid_request (shape_at boxes k) (length_at marks k))
      (place_at now.places k).x.0 (place_at now.places k).y.0
  pub extent : (k : ℕ) → 0 < k → k < n → is_solid (block_at boxes k).inside ≡ true
      → length_at now.extents k ≡ (place_at now.places k).y.0 -ℤ length_at marks k +ℤ (shape_at boxes k).height.0
  pub low : (k : ℕ) → 0 < k → k < n → is_solid (block_at boxes k).inside ≡ true
      → IsWithin (reach (weight boxes n)) (length_at marks k +ℤ length_at now.extents k)
  pub other : (k : ℕ) → 0 < k → k < n → (shape_at boxes k).float ≡ None → is_solid (block_at boxes k).inside ≡ false
      → place_at now.places k ≡ no_place
  pub lines : (k : ℕ) → k < n → is_lines (block_at boxes k).inside ≡ true → AreLinesAt boxes marks now.places k
  pub lines_extent : (k : ℕ) → k < n → is_lines (block_at boxes k).inside ≡ true
      → length_at now.extents k ≡ (lines_at now.places k).end.0 -ℤ (length_at marks k +ℤ (block_at boxes k).edge_top.0)
  pub no_lines_else : (k : ℕ) → k < n → is_lines (block_at boxes k).inside ≡ false → lines_at now.places k ≡ no_lines

-- all spots of a context are near
abbrev pub AreCornersNear : List FlowBox → List Spot → Type 0
AreCornersNear boxes places = (k : ℕ) → k < length boxes → IsPlaceNear (weight boxes (length boxes)) (spot_at places k)

-- a ceiling of the box behind boxes of this weight: its mark, or the top of its parent's content
abbrev pub IsCeilingNear : ℕ → ℤ → Type 0
IsCeilingNear w v = IsWithin (pos (2251799813685248 + 68719476736 * w + 17179869184)) v
