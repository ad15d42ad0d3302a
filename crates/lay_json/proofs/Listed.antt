-- The ids of a list of nodes are those of the document that the nodes give.
use Rattle.std.proofs.Common.{◌≡◌, ℕ, List, [], ◌∷◌, ◌++◌, length, take, drop, map, refl, sym, ap, ◌∙◌, Bool, true, false, Option, Some, None, ok_or, unwrap_or, Result, Ok, Err, IsPermutation, append_assoc, append-nil, ◌==◌, if◌then◌else◌}
use Rattle.std.specs.List.{insert}
use Rattle.std.proofs.lemmas.List.{map-append, take-map, drop-map}
use Rattle.std.proofs.lemmas.List.Sorted.{IsPermutation-refl, IsPermutation-insert, IsPermutation-push_more}
use Rattle.serde_json.specs.Data.{Data, Members, Items, no_items, item}
use Rattle.lay_style.specs.Values.{Declaration}
use Rattle.lay_style.specs.Places.{place_of}
use Rattle.lay_doc.specs.declared.node.NodeId.{NodeId}
use Rattle.lay_doc.specs.declared.node.Node.{Node}
use Rattle.lay_doc.specs.declared.node.Kind.{Kind}
use Rattle.lay_doc.specs.declared.node.Kind.TheVariants.{Element, Text, Replaced}
use Rattle.lay_doc.specs.declared.edit.EditFault.{EditFault}
use Rattle.lay_doc.specs.declared.edit.EditFault.TheVariants.{NoNode}
use Rattle.lay_doc.specs.declared.edit.BadDeclaration.{BadDeclaration}
use Rattle.lay_doc.specs.NewNodes.{NewNodeValue}
use Rattle.lay_doc.specs.Document.{Document, ids_of, moved, root_document}
use Rattle.lay_doc.specs.Edits.{insert_fault, after_insert, last_index, root_fault}
use Rattle.lay_doc.proofs.Inserted.{ids_inserted}
use Rattle.lay_json.specs.declared.fault.Field.{Field}
use Rattle.lay_json.specs.declared.fault.Field.TheVariants.{Id, Parent, Nodes, Text as in_text}
use Rattle.lay_json.specs.declared.fault.Spot.{Spot}
use Rattle.lay_json.specs.declared.fault.Spot.TheVariants.{Node as in_node}
use Rattle.lay_json.specs.declared.fault.InputFault.{InputFault}
use Rattle.lay_json.specs.declared.fault.InputFault.TheVariants.{Missing, BadNode}
use Rattle.lay_json.specs.declared.node_form.KindName.{KindName}
use Rattle.lay_json.specs.declared.node_form.NodeForm.{NodeForm}
use Rattle.lay_json.specs.Fields.{then_read, map_read, value_in, object_of, whole_within, number_of, required_number}
use Rattle.lay_json.specs.NodeForms.{kind_name, node_kind_named, node_form, node_with, new_node, text_in, declarations_in}
use Rattle.lay_json.specs.Nodes.{declared_or, node_at, without_fault, document_of_root, put_last, put_node, put_nodes}
use Rattle.lay_run.specs.Runs.{IsListed}
use Rattle.lay_json.specs.Listing.{id_in, ids_in, IsNodeListing}

-- a number that was read is the whole number that the field has
number_read : (low high n : ℕ) (f : Field) (place : Spot) (d : Data) → required_number low high f place d ≡ Ok n → whole_within low high (value_in f d) ≡ Some n
number_read low high n f place d is = of_value (value_in f d) is
  where
    within : {E : Type 0} (tests : Bool) (o : Option ℕ) (other fault : E) → (if tests then ok_or o fault else Err other) ≡ Ok n → o ≡ Some n
    within true (Some m) other fault e = let same : m ≡ n = cc in ap Some same
    within true None other fault e = absurd cc
    within false o other fault e = absurd cc

    of_value : (v : Option Data) → then_read (ok_or v (Missing f place)) (number_of low high f place) ≡ Ok n → whole_within low high v ≡ Some n
    of_value None e = absurd cc
    of_value (Some x) e = within _ _ _ _ e

-- the id of a form is the one that its object has
form_id : (place : Spot) (d : Data) (form : NodeForm) → node_form place d ≡ Ok form → form.id ≡ id_in d
form_id place d form is =
    let n = number_read 1 4294967295 form.id.0 Id place d (first (required_number 1 4294967295 Id place d) is) in
    ap (λ (o : Option ℕ). the_id (unwrap_or o 0)) (sym n)
  where
    the_id : ℕ → NodeId
    the_id n = record { 0 = n }

    fourth : (id parent : ℕ) (kind : Result Kind InputFault) → then_read kind (λ k. Ok (record { id = record { 0 = id }; parent = record { 0 = parent }; kind = k })) ≡ Ok form → id ≡ form.id.0
    fourth id parent (Ok kind) e = let same : record { id = record { 0 = id }; parent = record { 0 = parent }; kind = kind } ≡ form = cc in ap (λ (f : NodeForm). f.id.0) same
    fourth id parent (Err fault) e = absurd cc

    third : (id parent : ℕ) (name : Result KindName InputFault) → then_read name (λ n. then_read (node_kind_named place d n) (λ k. Ok (record { id = record { 0 = id }; parent = record { 0 = parent }; kind = k }))) ≡ Ok form → id ≡ form.id.0
    third id parent (Ok name) e = fourth id parent (node_kind_named place d name) e
    third id parent (Err fault) e = absurd cc

    second : (id : ℕ) (parent : Result ℕ InputFault) → then_read parent (λ p. then_read (kind_name place d) (λ n. then_read (node_kind_named place d n) (λ k. Ok (record { id = record { 0 = id }; parent = record { 0 = p }; kind = k })))) ≡ Ok form → id ≡ form.id.0
    second id (Ok parent) e = third id parent (kind_name place d) e
    second id (Err fault) e = absurd cc

    first : (id : Result ℕ InputFault) → then_read id (λ i. then_read (required_number 0 4294967295 Parent place d) (λ p. then_read (kind_name place d) (λ n. then_read (node_kind_named place d n) (λ k. Ok (record { id = record { 0 = i }; parent = record { 0 = p }; kind = k }))))) ≡ Ok form → id ≡ Ok form.id.0
    first (Ok id) e = ap Ok (second id (required_number 0 4294967295 Parent place d) e)
    first (Err fault) e = absurd cc

-- a node has the id of its form
node_id : (id parent : NodeId) (kind : Kind) (d : Data) (new : NewNodeValue) → new_node (record { id = id; parent = parent; kind = kind }) d ≡ Ok new → new.id ≡ id
node_id id parent kind d new is = of_kind kind is
  where
    of_node : (made : NewNodeValue) (r : Result NewNodeValue BadDeclaration) → r ≡ Ok made → r ≡ Ok new → made.id ≡ id → new.id ≡ id
    of_node made r a b e = let same : new ≡ made = cc in ap (λ (n : NewNodeValue). n.id) same ∙ e

    mapped : (form : NodeForm) → form.id ≡ id → (decls : Result (List Declaration) BadDeclaration) → map_read (node_with form []) decls ≡ Ok new → new.id ≡ id
    mapped form e (Ok decls) r = of_node (node_with form [] decls) _ refl r e
    mapped form e (Err bad) r = absurd cc

    of_kind : (k : Kind) → new_node (record { id = id; parent = parent; kind = k }) d ≡ Ok new → new.id ≡ id
    of_kind (Element colspan rowspan) r = mapped (record { id = id; parent = parent; kind = Element colspan rowspan }) refl (declarations_in d) r
    of_kind Text r = of_node (node_with (record { id = id; parent = parent; kind = Text }) (text_in (value_in in_text d)) []) _ refl r refl
    of_kind (Replaced w h) r = mapped (record { id = id; parent = parent; kind = Replaced w h }) refl (declarations_in d) r

-- so a node of the list has the id that its object has
id_at : (k : ℕ) (d : Data) (node : NodeId × NewNodeValue) → node_at k d ≡ Ok node → node.1.id ≡ id_in d
id_at k d node is = first (object_of Nodes (in_node k) d) is
  where
    made : (form : NodeForm) (new : Result NewNodeValue BadDeclaration) → map_read (λ n. (form.parent, n)) (declared_or k new) ≡ Ok node → new ≡ Ok node.1
    made form (Ok new) e = let same : (form.parent, new) ≡ node = cc in ap (λ (n : NodeId × NewNodeValue). Ok n.1) same
    made form (Err bad) e = absurd cc

    second : (form : Result NodeForm InputFault) → node_form (in_node k) d ≡ form → then_read form (λ f. map_read (λ n. (f.parent, n)) (declared_or k (new_node f d))) ≡ Ok node → node.1.id ≡ id_in d
    second (Ok form) was e = node_id form.id form.parent form.kind d node.1 (made form (new_node form d) e) ∙ form_id (in_node k) d form was
    second (Err fault) was e = absurd cc

    first : (members : Result Members InputFault) → then_read members (λ m. then_read (node_form (in_node k) d) (λ f. map_read (λ n. (f.parent, n)) (declared_or k (new_node f d)))) ≡ Ok node → node.1.id ≡ id_in d
    first (Ok _) e = second (node_form (in_node k) d) refl e
    first (Err fault) e = absurd cc

-- a document with a node put into it has its ids, and the node's
map-insert : {X Y : Type 0} (f : X → Y) (xs : List X) (i : ℕ) (x : X) → map f (insert xs i x) ≡ insert (map f xs) i (f x)
map-insert f xs i x = map-append f (take i xs) (x ∷ drop i xs) ∙ rw (take-map f i xs, drop-map f i xs) refl

ids_moved : (at : ℕ) (nodes : List Node) → ids_of (map (moved at) nodes) ≡ ids_of nodes
ids_moved at [] = refl
ids_moved at (n ∷ ns) = ap (λ (ids : List ℕ). n.id.0 ∷ ids) (ids_moved at ns)

listed_more : (listed : List NodeId) (id : NodeId) (ids : List ℕ) (at : ℕ) → IsPermutation (map (λ i. i.0) listed) ids → IsPermutation (map (λ i. i.0) (listed ++ id ∷ [])) (insert ids at id.0)
listed_more listed id ids at is =
    rw (map-append (λ (i : NodeId). i.0) listed (id ∷ [])) (IsPermutation-push_more (map (λ (i : NodeId). i.0) listed) ids (insert ids at id.0) id.0 is (IsPermutation-insert ids at id.0))

-- a document that a node was put into without a fault lists the node after the others
pub put_listed : (d e : Document) (node : NodeId × NewNodeValue) (listed : List NodeId) → IsListed d listed → put_last d node ≡ Ok e → IsListed e (listed ++ node.1.id ∷ [])
put_listed d e node listed is put = of_place (place_of node.0.0 (ids_of d.nodes)) refl
  where
    index : ℕ
    index = last_index d node.0.0

    no_fault : (fault : Option EditFault) → without_fault (length d.nodes) fault (after_insert d node.0.0 index node.1) ≡ Ok e → (fault ≡ None) × (after_insert d node.0.0 index node.1 ≡ e)
    no_fault None is_e = (refl, cc)
    no_fault (Some fault) is_e = absurd cc

    facts : (insert_fault d node.0.0 index node.1 ≡ None) × (after_insert d node.0.0 index node.1 ≡ e)
    facts = no_fault (insert_fault d node.0.0 index node.1) put

    of_place : (place : Option ℕ) → place_of node.0.0 (ids_of d.nodes) ≡ place → IsListed e (listed ++ node.1.id ∷ [])
    of_place None was = let f = facts.0 in let g = rw was at f in absurd cc
    of_place (Some p) was =
        let a = facts.1 in
        let g = rw was at a in
        rw (← g) (rw (ids_inserted d.nodes _ _) (listed_more listed node.1.id (ids_of d.nodes) _ is))

put_nodes_listed : (d e : Document) (nodes : Items) (listed : List NodeId) → IsListed d listed → put_nodes d nodes ≡ Ok e → IsListed e (listed ++ ids_in nodes)
put_nodes_listed d e no_items listed is put = let same : d ≡ e = cc in rw (← same, append-nil listed) is
put_nodes_listed d e (item x xs) listed is put = first (λ f. put_nodes_listed f e xs (listed ++ id_in x ∷ [])) (put_node d x) refl put
  where
    node_put : (node : Result (NodeId × NewNodeValue) InputFault) (f : Document) → node_at (length d.nodes) x ≡ node → then_read node (put_last d) ≡ Ok f → IsListed f (listed ++ id_in x ∷ [])
    node_put (Ok node) f was p = rw (← id_at (length d.nodes) x node was) (put_listed d f node listed is p)
    node_put (Err fault) f was p = absurd cc

    first : ((f : Document) → IsListed f (listed ++ id_in x ∷ []) → put_nodes f xs ≡ Ok e → IsListed e ((listed ++ id_in x ∷ []) ++ ids_in xs))
        → (r : Result Document InputFault) → put_node d x ≡ r → then_read r (λ f. put_nodes f xs) ≡ Ok e → IsListed e (listed ++ id_in x ∷ ids_in xs)
    first after (Ok f) was p = rw (← append_assoc listed (id_in x ∷ []) (ids_in xs)) (after f (node_put (node_at (length d.nodes) x) f refl was) p)
    first after (Err fault) was p = absurd cc

-- the ids of the nodes that give a document are those of its nodes
pub document_listed : (first : Data) (rest : Items) → IsNodeListing first rest (id_in first ∷ ids_in rest)
document_listed first rest = λ viewport e is. root_read viewport e (node_at 0 first) refl is
  where
    root_listed : (viewport : ℕ × ℕ) (d : Document) (root : NodeId × NewNodeValue) → node_at 0 first ≡ Ok root → document_of_root viewport root ≡ Ok d → IsListed d (id_in first ∷ [])
    root_listed viewport d root was is = of_parent (root.0.0 == 0) is
      where
        no_fault : (fault : Option EditFault) → without_fault 0 fault (root_document viewport.0 viewport.1 root.1) ≡ Ok d → root_document viewport.0 viewport.1 root.1 ≡ d
        no_fault None e = cc
        no_fault (Some fault) e = absurd cc

        of_parent : (alone : Bool) → (if alone then without_fault 0 (root_fault root.1) (root_document viewport.0 viewport.1 root.1) else Err (BadNode 0 NoNode)) ≡ Ok d → IsListed d (id_in first ∷ [])
        of_parent true e =
            let same = no_fault (root_fault root.1) e in
            let id = ap (λ (i : NodeId). i.0) (id_at 0 first root was) in
            rw (← same, id) (IsPermutation-refl _)
        of_parent false e = absurd cc

    rest_put : (viewport : ℕ × ℕ) (e : Document) (root : NodeId × NewNodeValue) → node_at 0 first ≡ Ok root → (d : Result Document InputFault) → document_of_root viewport root ≡ d → then_read d (λ f. put_nodes f rest) ≡ Ok e → IsListed e (id_in first ∷ ids_in rest)
    rest_put viewport e root was (Ok d) made p = put_nodes_listed d e rest (id_in first ∷ []) (root_listed viewport d root was made) p
    rest_put viewport e root was (Err fault) made p = absurd cc

    root_read : (viewport : ℕ × ℕ) (e : Document) (root : Result (NodeId × NewNodeValue) InputFault) → node_at 0 first ≡ root → then_read root (λ r. then_read (document_of_root viewport r) (λ d. put_nodes d rest)) ≡ Ok e → IsListed e (id_in first ∷ ids_in rest)
    root_read viewport e (Ok root) was p = rest_put viewport e root was (document_of_root viewport root) refl p
    root_read viewport e (Err fault) was p = absurd cc
