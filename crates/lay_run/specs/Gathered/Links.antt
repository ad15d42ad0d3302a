-- Links of nodes by their numbers: to the next one in document order, and to the last child.
use Rattle.std.specs.Prelude.{ℕ, ◌≡◌, ◌≢◌, ◌<◌, ◌≤◌, List, [], ◌∷◌, ◌++◌, length, slice_index, slice_set}
use Rattle.lay_run.specs.declared.gathered.listing.Listing.{Listing}

-- the last node of the subtree of the node with the number i: itself where it has no child, else that of its last child
pub data IsLastOf (lasts : List ℕ) : ℕ → ℕ → Type 0 where
  itself : (i : ℕ) → slice_index lasts i ≡ i → IsLastOf lasts i i
  below : (i l : ℕ) → slice_index lasts i ≢ i → IsLastOf lasts (slice_index lasts i) l → IsLastOf lasts i l

-- one more node, linked behind the one with the number `before`
abbrev pub with_behind : List ℕ → ℕ → List ℕ
with_behind nexts before = slice_set (nexts ++ slice_index nexts before ∷ []) before (length nexts)

-- one more node, which is the last child of the one with the number `up`
abbrev pub with_child : List ℕ → ℕ → List ℕ
with_child lasts up = slice_set (lasts ++ length lasts ∷ []) up (length lasts)

-- each node has its links, and a last child comes after its parent
pub record HasNodeLinks (l : Listing) : Type 0 where
  pub nexts : length l.nexts.items ≡ length l.items.items
  pub lasts : length l.lasts.items ≡ length l.items.items
  pub rising : (i : ℕ) → i < length l.lasts.items → (i ≤ slice_index l.lasts.items i) × (slice_index l.lasts.items i < length l.lasts.items)
