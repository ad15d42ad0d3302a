-- The run that the generator makes of a size and a seed, as a run document would say it: a viewport of 800 by 600 px, the
-- default face, and the nodes in their order, each put into the document as the last child of its parent.
use Rattle.std.specs.Prelude.{ℕ, List, ◌∷◌, fold, map}
use Rattle.lay_doc.specs.declared.node.NodeId.{NodeId}
use Rattle.lay_doc.specs.NewNodes.{NewNodeValue}
use Rattle.lay_doc.specs.Document.{Document, root_document}
use Rattle.lay_doc.specs.Edits.{after_insert, last_index}
use Rattle.lay_run.specs.Runs.{Run}
use Rattle.lay_json.specs.FaceFields.{default_face}
use Rattle.lay_generator.specs.Nodes.{root, sections, sections_end}
use Rattle.lay_generator.specs.Commands.{scripts}

-- a document with a node as the last child of its parent
abbrev pub with_node : Document → NodeId × NewNodeValue → Document
with_node d node = after_insert d node.0.0 (last_index d node.0.0) node.1

abbrev pub with_nodes : Document → List (NodeId × NewNodeValue) → Document
with_nodes d nodes = fold with_node d nodes

abbrev pub ids : List (NodeId × NewNodeValue) → List NodeId
ids nodes = map (λ n. n.1.id) nodes

-- the run of a size and a seed
abbrev pub generated : ℕ → ℕ → Run
generated size seed = record {
  doc = with_nodes (root_document 800 600 root) (sections size 0 seed);
  face = default_face;
  scripts = scripts size 4 1 (sections_end size seed);
  listed = root.id ∷ ids (sections size 0 seed);
}
