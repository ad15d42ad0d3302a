-- The list `nodes`: its nodes are read one after the other. The first is the root of the document, and each later
-- one is put into it as the last child of its parent. A node's forms are judged first, then its
-- declarations (I6), then whether it can be put there (I5). Node k, counted from 0, is read when k nodes
-- are there.
use Rattle.std.specs.Prelude.{ℕ, ◌==◌, true, false, length, Option, Some, None, Result, Ok, Err, if◌then◌else◌}
use Rattle.serde_json.specs.Data.{Data, Items, no_items, item}
use Rattle.lay_doc.specs.declared.node.NodeId.{NodeId}
use Rattle.lay_doc.specs.declared.edit.EditFault.{EditFault}
use Rattle.lay_doc.specs.declared.edit.EditFault.TheVariants.{NoNode}
use Rattle.lay_doc.specs.declared.edit.BadDeclaration.{BadDeclaration}
use Rattle.lay_doc.specs.declared.edit.BadDeclaration.TheVariants.{Property as no_property, Value as no_value}
use Rattle.lay_doc.specs.NewNodes.{NewNodeValue}
use Rattle.lay_doc.specs.Document.{Document, root_document}
use Rattle.lay_doc.specs.Edits.{insert_fault, after_insert, last_index, root_fault}
use Rattle.lay_json.specs.declared.fault.Field.TheVariants.{Nodes}
use Rattle.lay_json.specs.declared.fault.Spot.TheVariants.{Node as in_node}
use Rattle.lay_json.specs.declared.fault.InputFault.{InputFault}
use Rattle.lay_json.specs.declared.fault.InputFault.TheVariants.{BadNode, BadDecl}
use Rattle.lay_json.specs.Fields.{then_read, map_read, object_of}
use Rattle.lay_json.specs.NodeForms.{node_form, new_node}

-- the fault of node k for a declaration that is none: whether its property is known
abbrev pub bad_decl : ℕ → BadDeclaration → InputFault
bad_decl k no_property = BadDecl k false
bad_decl k no_value = BadDecl k true

abbrev pub declared_or : {A : Type 0} → ℕ → Result A BadDeclaration → Result A InputFault
declared_or k (Ok a) = Ok a
declared_or k (Err bad) = Err (bad_decl k bad)

-- node k: its parent's id, and the node itself
abbrev pub node_at : ℕ → Data → Result (NodeId × NewNodeValue) InputFault
node_at k d =
    then_read (object_of Nodes (in_node k) d) (λ members.
    then_read (node_form (in_node k) d) (λ form.
    map_read (λ new. (form.parent, new)) (declared_or k (new_node form d))))

-- a document, where node k has no fault in it
abbrev pub without_fault : ℕ → Option EditFault → Document → Result Document InputFault
without_fault k None d = Ok d
without_fault k (Some fault) d = Err (BadNode k fault)

-- the document of the first node, which has no parent
abbrev pub document_of_root : ℕ × ℕ → NodeId × NewNodeValue → Result Document InputFault
document_of_root viewport (parent, root) =
    if parent.0 == 0 then without_fault 0 (root_fault root) (root_document viewport.0 viewport.1 root)
    else Err (BadNode 0 NoNode)

-- the document with a node as the last child of its parent
abbrev pub put_last : Document → NodeId × NewNodeValue → Result Document InputFault
put_last d (parent, new) =
    let index = last_index d parent.0 in
    without_fault (length d.nodes) (insert_fault d parent.0 index new) (after_insert d parent.0 index new)

abbrev pub put_node : Document → Data → Result Document InputFault
put_node d x = then_read (node_at (length d.nodes) x) (put_last d)

abbrev pub put_nodes : Document → Items → Result Document InputFault
put_nodes d no_items = Ok d
put_nodes d (item x xs) = then_read (put_node d x) (λ e. put_nodes e xs)

-- the document of the viewport's width and height, of the first node and of those after it
abbrev pub document_of : ℕ × ℕ → Data → Items → Result Document InputFault
document_of viewport first rest =
    then_read (node_at 0 first) (λ root.
    then_read (document_of_root viewport root) (λ d.
    put_nodes d rest))
