-- What a run document says: the document before any edit, the face, the commands of each editor, and the ids of the
-- nodes in the order in which the list `nodes` has them, which needn't be document order.
use Rattle.std.specs.Prelude.{List, map, IsPermutation}
use Rattle.lay_doc.specs.declared.node.NodeId.{NodeId}
use Rattle.lay_doc.specs.Document.{Document, ids_of}
use Rattle.lay_history.specs.declared.edits.command.Cmd.{Cmd}
use Rattle.lay_face.specs.FaceValue.{FaceValue}

pub record Run : Type 0 where
  pub doc : Document
  pub face : FaceValue
  pub scripts : List (List Cmd)
  pub listed : List NodeId

-- the ids are those of the document's nodes, each as often as there
abbrev pub IsListed : Document → List NodeId → Type 0
IsListed d listed = IsPermutation (map (λ id. id.0) listed) (ids_of d.nodes)
