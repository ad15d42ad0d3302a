-- The place behind a box and all that is in it.
use Rattle.std.specs.Prelude.{ℕ, ◌≡◌, ◌⊎◌, ◌<◌, ◌≤◌, List, length, slice_index}
use Rattle.lay_box_tree.specs.Containers.{box_parent}
use Rattle.lay_box_tree.specs.declared.box_tree.BoxNode.{BoxNode}

pub record IsEnd (boxes : List BoxNode) (k e : ℕ) : Type 0 where
  pub after : k < e
  pub within : e ≤ length boxes
  pub inside : (j : ℕ) → k < j → j < e → k ≤ box_parent boxes j
  pub next : e < length boxes → box_parent boxes e < k

pub record AreEnds (boxes : List BoxNode) (ends : List ℕ) : Type 0 where
  pub count : length ends ≡ length boxes
  pub each : (k : ℕ) → k < length boxes → IsEnd boxes k (slice_index ends k)

-- the same of a box whose end is among the first n boxes, or isn't known to be
abbrev pub IsOpenTo : List BoxNode → (n k e : ℕ) → Type 0
IsOpenTo boxes n k e = (e ≡ length boxes) × ((j : ℕ) → k < j → j < n → k ≤ box_parent boxes j)

pub record AreEndsTo (boxes : List BoxNode) (ends : List ℕ) (n : ℕ) : Type 0 where
  pub count : length ends ≡ length boxes
  pub each : (k : ℕ) → k < length boxes → IsEnd boxes k (slice_index ends k) ⊎ IsOpenTo boxes n k (slice_index ends k)
