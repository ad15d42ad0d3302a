-- What the nodes of a document are called: a run document lists names beside ids, in an order that needn't be document order.
use Rattle.std.specs.Prelude.{ℕ, ◌≡◌, ◌==◌, ◌<◌, List, [], ◌∷◌, length, map, slice_index, slice_index_or, if◌then◌else◌}
use Rattle.lay_doc.specs.declared.node.Node.{Node}
use Rattle.lay_doc.specs.declared.node.NodeId.{NodeId}
use Rattle.lay_doc.specs.Document.{ids_of}
use Rattle.lay_cascade.specs.declared.node_names.names.Names.{Names}

abbrev pub no_names : Names
no_names = record { tag = []; label = []; classes = [] }

-- the names that are listed beside an id; a node that isn't listed has none
abbrev pub named_of : List NodeId → List Names → ℕ → Names
named_of [] names id = no_names
named_of (x ∷ xs) [] id = no_names
named_of (x ∷ xs) (n ∷ ns) id = if x.0 == id then n else named_of xs ns id

-- the names of nodes in their order
abbrev pub names_by_place : List NodeId → List Names → List Node → List Names
names_by_place listed names nodes = map (λ n. named_of listed names n.id.0) nodes

-- the node with this id got these names, and the others are called as before
pub record IsNamedOne (nodes : List Node) (id : ℕ) (names : Names) (old new : List Names) : Type 0 where
  pub this : (k : ℕ) → k < length nodes → slice_index (ids_of nodes) k ≡ id → slice_index_or new k no_names ≡ names
  pub others : (k : ℕ) → k < length nodes → (slice_index (ids_of nodes) k ≡ id → ⊥)
      → slice_index_or new k no_names ≡ slice_index_or old k no_names

-- nodes are called as names are listed beside ids
pub record AreNamed (nodes : List Node) (listed : List NodeId) (names : List Names) (named : List Names) : Type 0 where
  pub count : length named ≡ length nodes
  pub each : (k : ℕ) → k < length nodes → slice_index_or named k no_names ≡ named_of listed names (slice_index (ids_of nodes) k)
