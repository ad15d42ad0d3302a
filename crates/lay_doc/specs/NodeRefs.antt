-- A node of a document as a reader sees it: with the id of its parent, which for the root is 0.
use Rattle.std.specs.Prelude.{ℕ, List, Option, option_map, slice_get, slice_index, ◌==◌, if◌then◌else◌}
use Rattle.lay_doc.specs.declared.node.NodeId.{NodeId}
use Rattle.lay_doc.specs.declared.node.Node.{Node}
use Rattle.lay_doc.specs.Document.{ids_of, parents_of}

pub record NodeRefValue : Type 0 where
  pub node : Node
  pub parent : NodeId

abbrev pub parent_id : List Node → ℕ → NodeId
parent_id nodes k = record { 0 = if k == 0 then 0 else slice_index (ids_of nodes) (slice_index (parents_of nodes) k) }

-- the node at a place, where the place is below the number of nodes
abbrev pub node_ref_at : List Node → ℕ → Option NodeRefValue
node_ref_at nodes k = option_map (λ n. record { node = n; parent = parent_id nodes k }) (slice_get nodes k)
