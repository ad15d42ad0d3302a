-- A tree in document order, as the list of the place of each node's parent. The root stands at place 0,
-- and its own entry is 0.
use Rattle.std.specs.Prelude.{ℕ, ◌≡◌, ◌+◌, ◌-◌, ◌<◌, ◌≤◌, ◌==◌, List, [], ◌∷◌, length}
use Rattle.std.specs.Prelude.{drop, slice_index, count_by, if◌then◌else◌, nat_lt, ◌↔◌}
use Rattle.std.specs.List.{between}

-- the root stands first, a parent before its children, and the nodes of each subtree together
pub record IsTree (parents : List ℕ) : Type 0 where
  pub root : slice_index parents 0 ≡ 0
  pub before : (k : ℕ) → 0 < k → k < length parents → slice_index parents k < k
  pub together : (j k : ℕ) → j < k → k < length parents → slice_index parents k < j → slice_index parents k ≤ slice_index parents j

-- how many children of the node at p stand before the place k
abbrev pub children_before : List ℕ → ℕ → ℕ → ℕ
children_before parents p k = count_by (λ u. u == p) (between (p + 1) k parents)

-- how many children the node at p has
abbrev pub child_count : List ℕ → ℕ → ℕ
child_count parents p = children_before parents p (length parents)

-- `at` is where the child of p with this index stands, or the place after p's subtree where the index is
-- the number of p's children: everything between p and `at` lies in p's subtree, `at` is no node deeper
-- in it, and so many children of p stand before
pub record IsSlot (parents : List ℕ) (p index at : ℕ) : Type 0 where
  pub after : p < at
  pub within : at ≤ length parents
  pub below : (j : ℕ) → p < j → j < at → p ≤ slice_index parents j
  pub index_is : children_before parents p at ≡ index
  pub next : at < length parents → slice_index parents at ≤ p

-- the slot of an index, looked for among the nodes from the place `at` on
abbrev pub slot_from : ℕ → ℕ → ℕ → List ℕ → ℕ
slot_from p index at [] = at
slot_from p index at (u ∷ us) =
    if nat_lt u p then at
    else (if u == p then (if index == 0 then at else slot_from p (index - 1) (at + 1) us)
    else slot_from p index (at + 1) us)

abbrev pub slot_of : List ℕ → ℕ → ℕ → ℕ
slot_of parents p index = slot_from p index (p + 1) (drop (p + 1) parents)

-- a place, after one node was put before the place `at`
abbrev pub shifted : ℕ → ℕ → ℕ
shifted at k = if nat_lt k at then k else (k + 1)

-- in a tree a slot is the only one of its index, and `slot_of` is it
abbrev pub OneSlot : Type 0
OneSlot = (parents : List ℕ) (p index at : ℕ) → IsTree parents → p < length parents → IsSlot parents p index at
    → at ≡ slot_of parents p index

-- the place behind the node at p and its descendants
abbrev pub end_of : List ℕ → ℕ → ℕ
end_of parents p = slot_of parents p (child_count parents p)

-- the node at k is that at p or one of its descendants
pub data IsUnder (parents : List ℕ) (p : ℕ) : ℕ → Type 0 where
  itself : IsUnder parents p p
  child : (k : ℕ) → 0 < k → IsUnder parents p (slice_index parents k) → IsUnder parents p k

-- in a tree just the node at p and its descendants stand from p up to its end
abbrev pub HasSubtree : Type 0
HasSubtree = (parents : List ℕ) (p k : ℕ) → IsTree parents → p < length parents → k < length parents
    → IsUnder parents p k ↔ ((p ≤ k) × (k < end_of parents p))
