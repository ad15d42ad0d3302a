-- Lists of nodes: of the root alone, and with one more node.
use Rattle.std.specs.Prelude.{ℕ, ◌≡◌, ◌+◌, ◌==◌, [], ◌∷◌, ◌++◌, length, slice_index, Some, None, if◌then◌else◌}
use Rattle.lay_doc.specs.declared.node.NodeId.{NodeId}
use Rattle.lay_doc.specs.NewNodes.{NewNodeValue}
use Rattle.lay_run.specs.declared.gathered.listing.Listed.{Listed}
use Rattle.lay_run.specs.declared.gathered.listing.Listing.{Listing}
use Rattle.lay_run.specs.Gathered.Numbers.{number_of}
use Rattle.lay_run.specs.Gathered.Listings.{depths_of}
use Rattle.lay_run.specs.Gathered.Links.{IsLastOf, with_behind, with_child}

abbrev pub root_listed : NewNodeValue → Listed
root_listed root = record { parent = record { 0 = 0 }; up = 0; depth = 1; new = root }

-- the root alone
pub record IsOfRoot (l : Listing) (root : NewNodeValue) : Type 0 where
  pub items : l.items.items ≡ root_listed root ∷ []
  pub nexts : l.nexts.items ≡ 0 ∷ []
  pub lasts : l.lasts.items ≡ 0 ∷ []
  pub numbers : (x : ℕ) → number_of l.numbers x ≡ (if x == root.id.0 then Some 0 else None)
  pub bytes : l.text_bytes ≡ length root.text

-- a list with one more node below the one with the number `up`, behind all of that one's subtree
pub record Grows (a b : Listing) (parent : NodeId) (up : ℕ) (new : NewNodeValue) : Type 0 where
  pub before : ℕ
  pub is_last : IsLastOf a.lasts.items up before
  pub items : b.items.items
      ≡ a.items.items ++ record { parent = parent; up = up; depth = slice_index (depths_of a.items.items) up + 1; new = new } ∷ []
  pub nexts : b.nexts.items ≡ with_behind a.nexts.items before
  pub lasts : b.lasts.items ≡ with_child a.lasts.items up
  pub numbers : (x : ℕ) → number_of b.numbers x ≡ (if x == new.id.0 then Some (length a.items.items) else number_of a.numbers x)
  pub bytes : b.text_bytes ≡ a.text_bytes + length new.text

-- two lists that have the same nodes, links and numbers
pub record IsSame (a b : Listing) : Type 0 where
  pub items : b.items.items ≡ a.items.items
  pub nexts : b.nexts.items ≡ a.nexts.items
  pub lasts : b.lasts.items ≡ a.lasts.items
  pub numbers : (x : ℕ) → number_of b.numbers x ≡ number_of a.numbers x
  pub bytes : b.text_bytes ≡ a.text_bytes
