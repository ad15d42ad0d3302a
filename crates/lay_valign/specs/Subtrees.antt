-- The aligned subtrees of a line (CSS 2.2, 10.8.1): that of a box has the box and the aligned
-- subtrees of its children that aren't `top` or `bottom`. So each part is in the subtree of one
-- part, its root, which is the strut, or `top` or `bottom`. A subtree reaches from the highest top
-- to the lowest bottom of its parts.
use Rattle.std.specs.Prelude.{ℕ, zero, suc, ◌≡◌, ◌<◌, ℤ, pos, ◌+ℤ◌, ◌-ℤ◌, ◌≤ℤ◌}
use Rattle.std.specs.Prelude.{List, length, slice_index, if◌then◌else◌}
use Rattle.lay_valign.specs.declared.parts.Part.{Part}
use Rattle.lay_valign.specs.Parts.{part_at, at, begins}
use Rattle.lay_valign.specs.Raises.{raise_of}

-- for each part its root, and how far its baseline stands above the root's; for each root how far
-- its subtree reaches above and below the root's baseline
pub record Subtrees : Type 0 where
  pub roots : List ℕ
  pub rises : List ℤ
  pub aboves : List ℤ
  pub belows : List ℤ

abbrev pub root_of : List Part → List ℕ → ℕ → ℕ
root_of parts roots zero = 0
root_of parts roots (suc k) =
    if begins (part_at parts (suc k)).shift then suc k
    else slice_index roots (part_at parts (suc k)).parent

abbrev pub rise_of : List Part → List ℤ → ℕ → ℤ
rise_of parts rises zero = pos 0
rise_of parts rises (suc k) =
    if begins (part_at parts (suc k)).shift then pos 0
    else at rises (part_at parts (suc k)).parent +ℤ raise_of (part_at parts (suc k))

pub record HasRoots (parts : List Part) (roots : List ℕ) : Type 0 where
  pub as_many : length roots ≡ length parts
  pub each : (k : ℕ) → k < length parts → slice_index roots k ≡ root_of parts roots k

pub record HasRises (parts : List Part) (rises : List ℤ) : Type 0 where
  pub as_many : length rises ≡ length parts
  pub each : (k : ℕ) → k < length parts → at rises k ≡ rise_of parts rises k

-- v is the greatest of the values of these places
pub record IsGreatest (Of : ℕ → Type 0) (value : ℕ → ℤ) (v : ℤ) : Type 0 where
  pub one_of : (k : ℕ) × Of k × (value k ≡ v)
  pub most : (k : ℕ) → Of k → value k ≤ℤ v

abbrev pub InSubtree : List ℕ → ℕ → ℕ → Type 0
InSubtree roots root k = (k < length roots) × (slice_index roots k ≡ root)

-- how far a part reaches above and below its root's baseline
abbrev pub above_of : List Part → List ℤ → ℕ → ℤ
above_of parts rises k = at rises k +ℤ (part_at parts k).above.0

abbrev pub below_of : List Part → List ℤ → ℕ → ℤ
below_of parts rises k = (part_at parts k).below.0 -ℤ at rises k

-- and a subtree, as far as the part that reaches farthest
abbrev pub HasReaches : List ℕ → (ℕ → ℤ) → List ℤ → Type 0
HasReaches roots value reaches =
    (root : ℕ) → root < length roots → slice_index roots root ≡ root
    → IsGreatest (InSubtree roots root) value (at reaches root)

pub record AreSubtrees (parts : List Part) (s : Subtrees) : Type 0 where
  pub roots : HasRoots parts s.roots
  pub rises : HasRises parts s.rises
  pub aboves : HasReaches s.roots (above_of parts s.rises) s.aboves
  pub belows : HasReaches s.roots (below_of parts s.rises) s.belows
