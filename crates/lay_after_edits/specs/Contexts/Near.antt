-- The nearest context of each node: its own, or else the one around it (CSS 2.2, 9.4.1); and which contexts have one of some nodes among
-- their own.
use Rattle.std.specs.Prelude.{ℕ, ◌≡◌, ◌<◌, ◌≤◌, Bool, true, false, List, length, slice_index}
use Rattle.lay_style.specs.declared.style.Style.{Style}
use Rattle.lay_doc.specs.declared.node.Node.{Node}
use Rattle.lay_contexts.specs.ContextTree.{IsAround, parent_of}
use Rattle.lay_after_edits.specs.Contexts.Links.{is_made}

-- no context stands at k
abbrev pub IsNoPlace : List ℕ → ℕ → Type 0
IsNoPlace places k = (j : ℕ) → j < length places → slice_index places j ≡ k → ⊥

-- the first n nodes have these nearest contexts, by the numbers of the contexts in a list of their places
pub record AreNearTo (nodes : List Node) (styles : List Style) (places near : List ℕ) (n : ℕ) : Type 0 where
  pub count : length near ≡ n
  pub own : (i : ℕ) → i < length places → slice_index places i < n → slice_index near (slice_index places i) ≡ i
  pub around : (k i : ℕ) → k < n → IsNoPlace places k → i < length places → IsAround nodes styles k (slice_index places i)
      → slice_index near k ≡ i

-- so many places stand before k
pub record ArePassed (places : List ℕ) (next k : ℕ) : Type 0 where
  pub within : next ≤ length places
  pub before : (i : ℕ) → i < next → slice_index places i < k
  pub from : (i : ℕ) → next ≤ i → i < length places → k ≤ slice_index places i

-- the nearest contexts of the first n nodes, before whose end so many contexts stand
pub record IsNearTo (nodes : List Node) (styles : List Style) (places near : List ℕ) (next n : ℕ) : Type 0 where
  pub passed : ArePassed places next n
  pub near_are : AreNearTo nodes styles places near n

-- of the first n nodes, each with a flag has its nearest context flagged, and that of its parent
pub record AreReachedTo (nodes : List Node) (near : List ℕ) (made reached : List Bool) (n : ℕ) : Type 0 where
  pub own : (k : ℕ) → k < n → is_made made k ≡ true → slice_index near k < length reached → is_made reached (slice_index near k) ≡ true
  pub around : (k : ℕ) → k < n → is_made made k ≡ true → slice_index near (parent_of nodes k) < length reached
      → is_made reached (slice_index near (parent_of nodes k)) ≡ true

-- the nearest contexts of the node at k and of its parent are flagged, and no flag is taken away
pub record MarksNearest (nodes : List Node) (near : List ℕ) (k : ℕ) (before after : List Bool) : Type 0 where
  pub as_many : length after ≡ length before
  pub own : slice_index near k < length before → is_made after (slice_index near k) ≡ true
  pub around : slice_index near (parent_of nodes k) < length before → is_made after (slice_index near (parent_of nodes k)) ≡ true
  pub kept : (i : ℕ) → is_made before i ≡ true → is_made after i ≡ true

-- a context without a flag has no node with one among its own
pub record AreReached (nodes : List Node) (styles : List Style) (places : List ℕ) (made reached : List Bool) : Type 0 where
  pub count : length reached ≡ length places
  pub own : (i : ℕ) → i < length places → is_made reached i ≡ false → is_made made (slice_index places i) ≡ false
  pub around : (i k : ℕ) → i < length places → is_made reached i ≡ false → k < length nodes
      → IsAround nodes styles k (slice_index places i) → is_made made k ≡ false
