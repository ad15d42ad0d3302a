-- The shape of a line (CSS 2.2, 10.8.1): how far the line box reaches above and below the strut's
-- baseline, and how far the baseline of each part stands above that. The line reaches as far as the
-- strut's subtree. Then `top` subtrees that are higher extend it downward, and after them `bottom`
-- subtrees that are higher still extend it upward. A `top` subtree has its top at the top of the
-- line, a `bottom` one its bottom at the bottom.
use Rattle.std.specs.Prelude.{ℕ, zero, suc, ◌≡◌, ◌<◌, ℤ, pos, ◌+ℤ◌, ◌-ℤ◌, ◌≤ℤ◌, ◌⊎◌}
use Rattle.std.specs.Prelude.{true, List, length, slice_index}
use Rattle.lay_valign.specs.declared.parts.Shift.{Shift}
use Rattle.lay_valign.specs.declared.parts.Shift.TheVariants.{Top, Bottom}
use Rattle.lay_valign.specs.declared.parts.LineEdge.{LineEdge}
use Rattle.lay_valign.specs.declared.parts.LineEdge.TheVariants.{TopEdge, BottomEdge}
use Rattle.lay_valign.specs.declared.parts.Part.{Part}
use Rattle.lay_valign.specs.declared.parts.LineShape.{LineShape}
use Rattle.lay_valign.specs.Parts.{part_at, at, shift_at, is_aligned}
use Rattle.lay_valign.specs.Subtrees.{Subtrees, AreSubtrees}

-- v is the least number that is at least `floor` and at least the value of each of these places
pub record IsRaised (Of : ℕ → Type 0) (value : ℕ → ℤ) (floor v : ℤ) : Type 0 where
  pub from : floor ≤ℤ v
  pub most : (k : ℕ) → Of k → value k ≤ℤ v
  pub least : (floor ≡ v) ⊎ ((k : ℕ) × Of k × (value k ≡ v))

-- the part begins a subtree that is aligned with this edge of the line
pub record IsAligned (edge : LineEdge) (parts : List Part) (k : ℕ) : Type 0 where
  pub within : k < length parts
  pub no_strut : 0 < k
  pub aligned : is_aligned edge (part_at parts k).shift ≡ true

-- how far a subtree reaches beyond one edge of the line, if the other edge is so far from the
-- baseline and the subtree stands at it
abbrev pub beyond : Subtrees → ℤ → ℕ → ℤ
beyond s other k = at s.aboves k +ℤ at s.belows k -ℤ other

pub record IsLine (parts : List Part) (s : Subtrees) (above below : ℤ) : Type 0 where
  pub downward :
      IsRaised (IsAligned TopEdge parts) (beyond s (at s.aboves 0)) (at s.belows 0) below
  pub upward : IsRaised (IsAligned BottomEdge parts) (beyond s below) (at s.aboves 0) above

-- how far a root's baseline stands above the strut's
abbrev pub base_by : Shift → ℤ → ℤ → ℤ → ℤ → ℤ
base_by Top above below line_above line_below = line_above -ℤ above
base_by Bottom above below line_above line_below = below -ℤ line_below
base_by _ above below line_above line_below = pos 0

abbrev pub base_of : List Part → Subtrees → ℤ → ℤ → ℕ → ℤ
base_of parts s above below zero = pos 0
base_of parts s above below (suc k) =
    base_by (part_at parts (suc k)).shift (at s.aboves (suc k)) (at s.belows (suc k)) above below

-- and that of a part
abbrev pub shift_of : List Part → Subtrees → ℤ → ℤ → ℕ → ℤ
shift_of parts s above below k =
    base_of parts s above below (slice_index s.roots k) +ℤ at s.rises k

pub record IsShape (parts : List Part) (shape : LineShape) : Type 0 where
  pub subtrees : Subtrees
  pub are_subtrees : AreSubtrees parts subtrees
  pub line : IsLine parts subtrees shape.above.0 shape.below.0
  pub as_many : length shape.shifts ≡ length parts
  pub each : (k : ℕ) → k < length parts
      → shift_at shape.shifts k ≡ shift_of parts subtrees shape.above.0 shape.below.0 k
