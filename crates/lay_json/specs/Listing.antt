-- The ids of the nodes of the list `nodes`, in its order.
use Rattle.std.specs.Prelude.{ℕ, ◌≡◌, List, [], ◌∷◌, unwrap_or, Ok}
use Rattle.serde_json.specs.Data.{Data, Items, no_items, item}
use Rattle.lay_doc.specs.declared.node.NodeId.{NodeId}
use Rattle.lay_doc.specs.Document.{Document}
use Rattle.lay_json.specs.declared.fault.Field.TheVariants.{Id}
use Rattle.lay_json.specs.Fields.{value_in, whole_within}
use Rattle.lay_json.specs.Nodes.{document_of}
use Rattle.lay_run.specs.Runs.{IsListed}

-- the id of a node, after its form was judged
abbrev pub id_in : Data → NodeId
id_in d = record { 0 = unwrap_or (whole_within 1 4294967295 (value_in Id d)) 0 }

abbrev pub ids_in : Items → List NodeId
ids_in no_items = []
ids_in (item d ds) = id_in d ∷ ids_in ds

-- where the nodes give a document, the ids are those of its nodes
abbrev pub IsNodeListing : Data → Items → List NodeId → Type 0
IsNodeListing first rest listed = (viewport : ℕ × ℕ) (d : Document) → document_of viewport first rest ≡ Ok d → IsListed d listed
