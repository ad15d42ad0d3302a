-- The first context of a document is of its first node.
use Rattle.std.proofs.Common.{◌≡◌, ◌<◌, ℕ, Bool, true, false, IsTrue, List, [], ◌∷◌, length, slice_index, Option, None, Some, refl, ap, sym, subst, ◌∙◌, arith}
use Rattle.std.proofs.lemmas.List.{get_or-map}
use Rattle.lay_style.specs.declared.style.Style.{Style}
use Rattle.lay_doc.specs.declared.node.NodeId.{NodeId}
use Rattle.lay_doc.specs.Document.{Document, IsDocument, ids_of}
use Rattle.lay_doc.specs.Edits.{after}
use Rattle.lay_shape.proofs.Cited.{box_within, children_stand_in_order, context_is_one_box, edits_leave_documents, length-parents, of_node}
use Rattle.lay_box_tree.specs.BoxColumns.{box_at as own_at}
use Rattle.lay_box_tree.specs.declared.box_tree.BoxNode.{BoxNode}
use Rattle.lay_boxgen.specs.Boxes.{Tree, Trees, tree, trees_of}
use Rattle.lay_boxgen.specs.declared.facts.Facts.{Facts}
use Rattle.lay_boxgen.specs.Contexts.{IsContextAt, box_at, is_marked}
use Rattle.lay_boxgen.specs.Laws.{inner_boxes}
use Rattle.lay_boxgen.specs.Listing.{listed_part}
use Rattle.lay_boxgen.specs.NodeTrees.{as_own, box_with, tree_at}
use Rattle.lay_boxgen.specs.Parts.{nothing, put_list}
use Rattle.lay_contexts.specs.ContextList.{AreContextsOf}
use Rattle.lay_contexts.specs.ContextTree.{boxes_of_place}
use Rattle.lay_contexts.specs.Contexts.{Context, boxes_in}
use Rattle.lay_contexts.specs.DocumentContexts.{root_spot, spot_at}
use Rattle.lay_contexts.specs.NodeTreeLaws.{child_trees, children_places}
use Rattle.lay_contexts.specs.declared.context_spot.ContextSpot.{ContextSpot}
use Rattle.lay_shape.specs.Keys.{node_of}
use Rattle.lay_shape.proofs.OwnNodes.{box_node, contexts_are_of_own_nodes_lem}
use Rattle.lay_shape.specs.ShapeLaws.RootKeys.{RootStaysFirst}
use Rattle.lay_shape.proofs.ShapeLawsLemmas.FirstNodes.{first_id_stays}

is_true : (b : Bool) → IsTrue b → b ≡ true
is_true true h = refl
is_true false h = cc

module _ (d : Document) (styles : List Style) (doc : IsDocument d) (same : length styles ≡ length d.nodes) where
  -- the own box of a context is of its node
  module _ (k : ℕ) (context : IsContextAt d.nodes styles k) where
    abbrev own_id : ℕ
    own_id = (own_at (boxes_of_place d.nodes styles k) 0).node.0

    listed_first : (f : Facts) (us : Trees) → (own_at (listed_part d.nodes styles (put_list nothing (tree (as_own f) us ∷ []))) 0).node.0 ≡ f.node.0
    listed_first f us = refl

    of_box : (f : Facts) → box_at d.nodes styles k ≡ Some f → own_id ≡ slice_index (ids_of d.nodes) k
    of_box f e =
        let n = of_node d.nodes styles k f e in
        let marked : f.inner ≡ true = is_true f.inner (subst (λ (o : Option Facts). IsTrue (is_marked o)) e context.establishes) in
        let cs : List Tree = child_trees d.nodes styles (children_places d.nodes k) in
        let mine : tree_at d.nodes styles k ≡ Some (tree f (trees_of cs)) =
        children_stand_in_order d styles k doc same (box_within d.nodes styles k f e) ∙ ap (λ (o : Option Facts). box_with o cs) e in
        let one = context_is_one_box d.nodes styles k f (trees_of cs) mine (n.no_inline marked) in
        ap (λ (ts : List Tree). (own_at (listed_part d.nodes styles (put_list nothing ts)) 0).node.0) one ∙ listed_first f (inner_boxes d.nodes styles f) ∙ box_node d.nodes styles k f e

    of_place : (o : Option Facts) → box_at d.nodes styles k ≡ o → own_id ≡ slice_index (ids_of d.nodes) k
    of_place None e = absurd (let never : false ≡ true = subst (λ (o : Option Facts). IsTrue (is_marked o)) e context.establishes in cc)
    of_place (Some f) e = of_box f e

  -- the first one is that of the root
  pub first_node : (contexts : List Context) → AreContextsOf d.nodes styles contexts → 0 < length contexts → (node_of contexts 0).0 ≡ slice_index (ids_of d.nodes) 0
  first_node contexts of some =
      let spots : List ContextSpot = of.spots in
      let there : 0 < length spots = (let n = of.numbered.count in omega (arith, some, n)) in
      let place : ℕ = (spot_at spots 0).place in
      let boxes : boxes_in contexts 0 ≡ boxes_of_place d.nodes styles place =
      (of.numbered.each 0 some).boxes_are ∙ get_or-map (λ (s : ContextSpot). boxes_of_place d.nodes styles s.place) spots 0 root_spot [] there in
      let root : place ≡ 0 = ap (λ (s : ContextSpot). s.place) of.are.root in
      ap (λ (bs : List BoxNode). (own_at bs 0).node.0) boxes ∙ of_place place (of.are.are 0 there) (box_at d.nodes styles place) refl ∙ ap (slice_index (ids_of d.nodes)) root

pub same_node : (m n : NodeId) → m.0 ≡ n.0 → m ≡ n
same_node m n e = ap (λ (id : ℕ). record { 0 = id }) e

pub root_stays_first_lem : RootStaysFirst
root_stays_first_lem d edit styles others contexts later i j edits of of_later lt_i lt_j node =
    let doc = edits.document in
    let left : IsDocument (after d edit) = edits_leave_documents d edit doc edits.puts edits.accepted in
    let counted : length styles ≡ length d.nodes = edits.before.length_is ∙ length-parents d.nodes in
    let counted_later : length others ≡ length (after d edit).nodes = edits.after.length_is ∙ length-parents (after d edit).nodes in
    let some : 0 < length contexts = omega (arith, lt_i) in
    let some_later : 0 < length later = omega (arith, lt_j) in
    let first : node_of contexts 0 ≡ node_of later 0 =
    same_node (node_of contexts 0) (node_of later 0)
    (first_node d styles doc counted contexts of some ∙ sym (first_id_stays d edit doc.some edits.accepted) ∙ sym (first_node (after d edit) others left counted_later later of_later some_later)) in (
      (λ z. contexts_are_of_own_nodes_lem (after d edit) others later left counted_later of_later j 0 lt_j some_later (sym node ∙ ap (node_of contexts) z ∙ first)),
      (λ z. contexts_are_of_own_nodes_lem d styles contexts doc counted of i 0 lt_i some (node ∙ ap (node_of later) z ∙ sym first)),
    )
