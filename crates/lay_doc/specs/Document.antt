-- A document: a viewport in px, and its nodes in document order, each with the place of its parent.
use Rattle.std.specs.Prelude.{ℕ, zero, ◌≡◌, ◌+◌, ◌<◌, ◌≤◌, List, [], ◌∷◌, map, length}
use Rattle.std.specs.Prelude.{sum_by, slice_index, suc, ◌||◌, nat_lt, Bool, true, false}
use Rattle.std.specs.List.{All, insert}
use Rattle.lay_units.specs.Limits.{longest_text, most_depth, most_nodes, most_text}
use Rattle.lay_style.specs.Values.{Declaration}
use Rattle.lay_doc.specs.declared.node.Node.{Node}
use Rattle.lay_doc.specs.NewNodes.{NewNodeValue, IsNodeForm, is_element, is_text}
use Rattle.lay_doc.specs.Tree.{IsTree, shifted}

pub record Document : Type 0 where
  pub width : ℕ
  pub height : ℕ
  pub nodes : List Node

abbrev pub parents_of : List Node → List ℕ
parents_of nodes = map (λ n. n.parent) nodes

abbrev pub ids_of : List Node → List ℕ
ids_of nodes = map (λ n. n.id.0) nodes

abbrev pub depths_of : List Node → List ℕ
depths_of nodes = map (λ n. n.depth) nodes

abbrev pub text_lengths_of : List Node → List ℕ
text_lengths_of nodes = map (λ n. length n.text) nodes

-- the declarations of a document's nodes
abbrev pub declarations_of : List Node → List (List Declaration)
declarations_of nodes = map (λ n. n.decls) nodes

-- the bytes of all texts together
abbrev pub text_size : List Node → ℕ
text_size nodes = sum_by (λ n. length n.text) nodes

-- a text of this many bytes is too long beside others of so many bytes
abbrev pub is_too_long : ℕ → ℕ → Bool
is_too_long others bytes = nat_lt longest_text bytes || nat_lt most_text (others + bytes)

-- whether the node at a place is an element
abbrev pub is_element_at : List Node → ℕ → Bool
is_element_at [] k = false
is_element_at (n ∷ ns) zero = is_element n.kind
is_element_at (n ∷ ns) (suc k) = is_element_at ns k

-- whether the node at a place is a text
abbrev pub is_text_at : List Node → ℕ → Bool
is_text_at [] k = false
is_text_at (n ∷ ns) zero = is_text n.kind
is_text_at (n ∷ ns) (suc k) = is_text_at ns k

-- the node is what one of its kind may be
abbrev pub IsNode : Node → Type 0
IsNode n = IsNodeForm n.kind n.decls n.text

-- ids differ and aren't 0, each node is what one of its kind may be, the first node is an element without parent, each other
-- node's parent is an element before it, the nodes of each subtree stand together, and the limits hold
pub record IsDocument (d : Document) : Type 0 where
  pub wide : 1 ≤ d.width
  pub narrow : d.width ≤ 1000000
  pub high : 1 ≤ d.height
  pub low : d.height ≤ 1000000
  pub some : 0 < length d.nodes
  pub few : length d.nodes ≤ most_nodes
  pub tree : IsTree (parents_of d.nodes)
  pub forms : All IsNode d.nodes
  pub root_element : is_element_at d.nodes 0 ≡ true
  pub parent_elements : (k : ℕ) → 0 < k → k < length d.nodes → is_element_at d.nodes (slice_index (parents_of d.nodes) k) ≡ true
  pub ids : (j k : ℕ) → j < k → k < length d.nodes → slice_index (ids_of d.nodes) j ≡ slice_index (ids_of d.nodes) k → ⊥
  pub named : (k : ℕ) → k < length d.nodes → 0 < slice_index (ids_of d.nodes) k
  pub depth_root : slice_index (depths_of d.nodes) 0 ≡ 1
  pub depth : (k : ℕ) → 0 < k → k < length d.nodes
      → slice_index (depths_of d.nodes) k ≡ slice_index (depths_of d.nodes) (slice_index (parents_of d.nodes) k) + 1
  pub shallow : (k : ℕ) → k < length d.nodes → slice_index (depths_of d.nodes) k ≤ most_depth
  pub short : (k : ℕ) → k < length d.nodes → slice_index (text_lengths_of d.nodes) k ≤ longest_text
  pub small : text_size d.nodes ≤ most_text

-- a node whose parent's place is moved by a node put before the place `at`
abbrev pub moved : ℕ → Node → Node
moved at n = record n { parent = shifted at n.parent }

-- the nodes with one put before the place `at`
abbrev pub inserted : List Node → ℕ → Node → List Node
inserted nodes at new = map (moved at) (insert nodes at new)

-- the node that a new one becomes below the place of its parent
abbrev pub becomes : NewNodeValue → ℕ → ℕ → Node
becomes new parent depth = record { id = new.id; parent = parent; depth = depth; kind = new.kind; decls = new.decls; text = new.text }

-- the document of one root
abbrev pub root_document : ℕ → ℕ → NewNodeValue → Document
root_document width height root = record { width = width; height = height; nodes = becomes root 0 1 ∷ [] }
