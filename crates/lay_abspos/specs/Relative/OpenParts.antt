-- The parts of inline boxes that a walk over the boxes keeps: of those before a place all that can have held a box from there
-- on.
use Rattle.std.specs.Prelude.{ℕ, ◌≡◌, ◌⊎◌, ◌+◌, ◌<◌, ◌≤◌, true, false, List, length, slice_index}
use Rattle.lay_box_tree.specs.declared.box_tree.BoxNode.{BoxNode}
use Rattle.lay_box_tree.specs.InlineParts.{id_at, is_inline_at, is_part_at}
use Rattle.lay_abspos.specs.Relative.FormerParents.{WasIn}

-- among the first n boxes this is the place of the next part behind the one at p, and 0 where there is none
abbrev pub IsNextTo : List BoxNode → (n p q : ℕ) → Type 0
IsNextTo boxes n p q =
    ((q ≡ 0) × ((j : ℕ) → p < j → j < n → is_part_at boxes (id_at boxes p) j ≡ false))
    ⊎ ((p < q) × (q < n) × (is_part_at boxes (id_at boxes p) q ≡ true)
    × ((j : ℕ) → p < j → j < q → is_part_at boxes (id_at boxes p) j ≡ false))

-- that of each part
pub record AreNextTo (boxes : List BoxNode) (next : List ℕ) (n : ℕ) : Type 0 where
  pub count : length next ≡ length boxes
  pub each : (p : ℕ) → p < length boxes → is_inline_at boxes p ≡ true → IsNextTo boxes n p (slice_index next p)

abbrev pub AreNextPlaces : List BoxNode → List ℕ → Type 0
AreNextPlaces boxes next = AreNextTo boxes next (length boxes)

-- no box from the place k on was in the inline box of the part at p
abbrev pub IsOver : List BoxNode → (k p : ℕ) → Type 0
IsOver boxes k p = (j : ℕ) → k ≤ j → j < length boxes → WasIn boxes p j → ⊥

pub record AreOpen (boxes : List BoxNode) (k : ℕ) (parts : List ℕ) : Type 0 where
  pub each : (i : ℕ) → i < length parts → (slice_index parts i < k) × (is_inline_at boxes (slice_index parts i) ≡ true)
  pub rising : (i j : ℕ) → i < j → j < length parts → slice_index parts i < slice_index parts j
  pub all : (p : ℕ) → p < k → is_inline_at boxes p ≡ true → ((i : ℕ) × (i < length parts) × (slice_index parts i ≡ p)) ⊎ IsOver boxes k p

-- the next part of the topmost one, if there is one, stands at the place `end` or behind it
abbrev pub GoesOn : (next parts : List ℕ) → ℕ → Type 0
GoesOn next parts end = (i : ℕ) → i + 1 ≡ length parts → end ≤ slice_index next (slice_index parts i)
