-- The sibling before a node (CSS 2.2, 5.7): texts between and before don't count.
use Rattle.std.specs.Prelude.{ℕ, ◌≡◌, ◌<◌, true, false, List, length, slice_index, slice_index_or, Option, Some, None}
use Rattle.lay_doc.specs.declared.node.Node.{Node}
use Rattle.lay_doc.specs.Document.{parents_of, is_text_at}

-- the node at m is the nearest before that at k with the same parent that isn't a text
pub record IsAdjacent (nodes : List Node) (m k : ℕ) : Type 0 where
  pub below_root : 0 < m
  pub before : m < k
  pub siblings : slice_index (parents_of nodes) m ≡ slice_index (parents_of nodes) k
  pub no_text : is_text_at nodes m ≡ false
  pub nearest : (j : ℕ) → m < j → j < k → slice_index (parents_of nodes) j ≡ slice_index (parents_of nodes) k → is_text_at nodes j ≡ true

-- the place of that node, of the first n nodes, where there is one
pub record AdjacentTo (nodes : List Node) (n : ℕ) (adjacent : List (Option ℕ)) : Type 0 where
  pub count : length adjacent ≡ n
  pub some : (k m : ℕ) → k < n → slice_index_or adjacent k None ≡ Some m → IsAdjacent nodes m k
  pub none : (k m : ℕ) → k < n → slice_index_or adjacent k None ≡ None → IsAdjacent nodes m k → ⊥

-- the same of all nodes
abbrev pub AreAdjacent : List Node → List (Option ℕ) → Type 0
AreAdjacent nodes adjacent = AdjacentTo nodes (length nodes) adjacent
