-- Each node that is read makes the document one node longer.
use Rattle.std.proofs.Common.{◌≡◌, ◌+◌, ◌==◌, ℕ, List, length, refl, sym, ap, ◌∙◌, arith, Bool, true, false, Option, Some, None, Result, Ok, Err, if◌then◌else◌}
use Rattle.std.specs.List.{insert}
use Rattle.std.proofs.lemmas.Grind.{common_steps}
use Rattle.std.proofs.lemmas.List.{length-map}
use Rattle.lay_style.specs.Places.{place_of}
use Rattle.lay_doc.specs.declared.node.NodeId.{NodeId}
use Rattle.lay_doc.specs.declared.node.Node.{Node}
use Rattle.lay_doc.specs.declared.edit.EditFault.{EditFault}
use Rattle.lay_doc.specs.declared.edit.EditFault.TheVariants.{NoNode}
use Rattle.lay_doc.specs.NewNodes.{NewNodeValue}
use Rattle.lay_doc.specs.Document.{Document, ids_of, moved, inserted, root_document}
use Rattle.lay_doc.specs.Edits.{insert_fault, after_insert, last_index, root_fault}
use Rattle.lay_json.specs.declared.fault.InputFault.{InputFault}
use Rattle.lay_json.specs.declared.fault.InputFault.TheVariants.{BadNode}
use Rattle.lay_json.specs.Fields.{then_read}
use Rattle.lay_json.specs.Nodes.{without_fault, node_at, document_of_root, put_last}
use Rattle.lay_json.specs.Laws.{NodesAreCounted}

no_fault : (k : ℕ) (o : Option EditFault) (d e : Document) → without_fault k o d ≡ Ok e → (o ≡ None) × (d ≡ e)
no_fault k None d e is = (refl, grind (arith, common_steps, is))
no_fault k (Some fault) d e is = absurd (grind (arith, common_steps, is))

length_insert : {X : Type 0} (xs : List X) (at : ℕ) (x : X) → length (insert xs at x) ≡ length xs + 1
length_insert xs at x = grind (arith, common_steps)

longer : (nodes : List Node) (at : ℕ) (node : Node) → length (inserted nodes at node) ≡ length nodes + 1
longer nodes at node = length-map (insert nodes at node) (moved at) ∙ length_insert nodes at node

inserts : (d : Document) (parent index : ℕ) (new : NewNodeValue) (o : Option ℕ) → place_of parent (ids_of d.nodes) ≡ o
    → insert_fault d parent index new ≡ None → length (after_insert d parent index new).nodes ≡ length d.nodes + 1
inserts d parent index new None none fault = absurd (grind (arith, common_steps, none, fault))
inserts d parent index new (Some p) found fault = rw found (longer d.nodes _ _)

puts : (d e : Document) (node : Result (NodeId × NewNodeValue) InputFault) → then_read node (put_last d) ≡ Ok e → length e.nodes ≡ length d.nodes + 1
puts d e (Err fault) is = absurd (grind (arith, common_steps, is))
puts d e (Ok (parent, new)) is =
    let index = last_index d parent.0 in
    let put = no_fault (length d.nodes) (insert_fault d parent.0 index new) (after_insert d parent.0 index new) e is in
    ap (λ (x : Document). length x.nodes) (sym put.1) ∙ inserts d parent.0 index new (place_of parent.0 (ids_of d.nodes)) refl put.0

roots : (viewport : ℕ × ℕ) (root : NodeId × NewNodeValue) (d : Document) → document_of_root viewport root ≡ Ok d → length d.nodes ≡ 1
roots viewport (parent, root) d is = by_parent (parent.0 == 0) is
  where
    by_parent : (b : Bool) → (if b then without_fault 0 (root_fault root) (root_document viewport.0 viewport.1 root) else Err (BadNode 0 NoNode)) ≡ Ok d → length d.nodes ≡ 1
    by_parent true one = ap (λ (x : Document). length x.nodes) (sym (no_fault 0 (root_fault root) (root_document viewport.0 viewport.1 root) d one).1)
    by_parent false none = absurd (grind (arith, common_steps, none))

pub nodes_are_counted_lem : NodesAreCounted
nodes_are_counted_lem = (roots, λ d e x is. puts d e (node_at (length d.nodes) x) is)
