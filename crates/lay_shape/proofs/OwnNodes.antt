-- The own box of a context is of its node, so contexts of one node are one.
use Rattle.std.proofs.Common.{◌≡◌, ◌⊎◌, ⊎_elim, ℕ, ◌<◌, List, [], ◌∷◌, length, slice_get, slice_index, refl, ap, sym, subst, ◌∙◌, arith, Bool, true, false, IsTrue, Option, Some, None}
use Rattle.std.proofs.lemmas.Bool.{cases_lt}
use Rattle.std.proofs.lemmas.List.{get_or-map}
use Rattle.std.proofs.lemmas.Option.{get_or_from_slice_get, slice_get-map}
use Rattle.std.specs.Option.{option_map}
use Rattle.lay_style.specs.declared.style.Style.{Style}
use Rattle.lay_style.specs.ComputedStyle.{style_at}
use Rattle.lay_doc.specs.declared.node.Node.{Node}
use Rattle.lay_doc.specs.declared.node.NodeId.{NodeId}
use Rattle.lay_doc.specs.Document.{Document, IsDocument, ids_of}
use Rattle.lay_box_tree.specs.BoxColumns.{box_at as own_at}
use Rattle.lay_box_tree.specs.declared.box_tree.BoxNode.{BoxNode}
use Rattle.lay_boxgen.specs.Boxes.{Tree, Trees, tree, trees_of}
use Rattle.lay_boxgen.specs.declared.facts.Facts.{Facts}
use Rattle.lay_boxgen.specs.Contexts.{IsContextAt, box_at, box_of_node, is_marked}
use Rattle.lay_boxgen.specs.Laws.{inner_boxes}
use Rattle.lay_boxgen.specs.Listing.{listed_part}
use Rattle.lay_boxgen.specs.NodeBoxes.{node_box}
use Rattle.lay_boxgen.specs.NodeTrees.{as_own, box_with, tree_at}
use Rattle.lay_boxgen.specs.Parts.{nothing, put_list}
use Rattle.lay_shape.proofs.Cited.{box_within, children_stand_in_order, context_is_one_box, context_within, is-node_box, IsNodeBox, of_node}
use Rattle.lay_contexts.specs.ContextList.{AreContextsOf}
use Rattle.lay_contexts.specs.ContextTree.{boxes_of_place}
use Rattle.lay_contexts.specs.Contexts.{Context, boxes_in}
use Rattle.lay_contexts.specs.DocumentContexts.{root_spot, spot_at}
use Rattle.lay_contexts.specs.NodeTreeLaws.{child_trees, children_places}
use Rattle.lay_contexts.specs.declared.context_spot.ContextSpot.{ContextSpot}
use Rattle.lay_shape.specs.Keys.{node_of}
use Rattle.lay_shape.specs.Laws.{ContextsAreOfOwnNodes}

is_true : (b : Bool) → IsTrue b → b ≡ true
is_true true h = refl
is_true false h = cc

-- a box has the id of its node
module _ (nodes : List Node) (styles : List Style) (k : ℕ) (f : Facts) (e : box_at nodes styles k ≡ Some f) where
  of_some : (n : Node) → slice_get nodes k ≡ Some n → f.node.0 ≡ slice_index (ids_of nodes) k
  of_some n get =
      let here : node_box k n (style_at styles k) ≡ Some f = sym (ap (λ (o : Option Node). box_of_node k o (style_at styles k)) get) ∙ e in
      let b = subst (IsNodeBox k n) here (is-node_box k n (style_at styles k)) in
      let there = slice_get-map (λ (m : Node). m.id.0) nodes k ∙ ap (option_map (λ (m : Node). m.id.0)) get in
      ap (λ (i : NodeId). i.0) b.node ∙ sym (get_or_from_slice_get (ids_of nodes) k n.id.0 0 there)

  of_get : (o : Option Node) → slice_get nodes k ≡ o → f.node.0 ≡ slice_index (ids_of nodes) k
  of_get None get = absurd (let never : None ≡ Some f = sym (ap (λ (o : Option Node). box_of_node k o (style_at styles k)) get) ∙ e in cc)
  of_get (Some n) get = of_some n get

  pub box_node : f.node.0 ≡ slice_index (ids_of nodes) k
  box_node = of_get (slice_get nodes k) refl

module _ (d : Document) (styles : List Style) (doc : IsDocument d) (same : length styles ≡ length d.nodes) where
  abbrev own_id : ℕ → ℕ
  own_id k = (own_at (boxes_of_place d.nodes styles k) 0).node.0

  node_by : (k : ℕ) (f : Facts) → IsContextAt d.nodes styles k → box_at d.nodes styles k ≡ Some f → own_id k ≡ slice_index (ids_of d.nodes) k
  node_by k f context e =
      let n = of_node d.nodes styles k f e in
      let marked : f.inner ≡ true = is_true f.inner (subst (λ (o : Option Facts). IsTrue (is_marked o)) e context.establishes) in
      let lt = box_within d.nodes styles k f e in
      let cs : List Tree = child_trees d.nodes styles (children_places d.nodes k) in
      let mine : tree_at d.nodes styles k ≡ Some (tree f (trees_of cs)) = children_stand_in_order d styles k doc same lt ∙ ap (λ (o : Option Facts). box_with o cs) e in
      let one = context_is_one_box d.nodes styles k f (trees_of cs) mine (n.no_inline marked) in
      ap (λ (ts : List Tree). (own_at (listed_part d.nodes styles (put_list nothing ts)) 0).node.0) one ∙ first f (inner_boxes d.nodes styles f) ∙ box_node d.nodes styles k f e
    where
      first : (g : Facts) (us : Trees) → (own_at (listed_part d.nodes styles (put_list nothing (tree (as_own g) us ∷ []))) 0).node.0 ≡ g.node.0
      first g us = refl

  by_box : (k : ℕ) (o : Option Facts) → IsContextAt d.nodes styles k → box_at d.nodes styles k ≡ o → own_id k ≡ slice_index (ids_of d.nodes) k
  by_box k None context e = absurd (let never : false ≡ true = subst (λ (o : Option Facts). IsTrue (is_marked o)) e context.establishes in cc)
  by_box k (Some f) context e = node_by k f context e

  own_node : (k : ℕ) → IsContextAt d.nodes styles k → own_id k ≡ slice_index (ids_of d.nodes) k
  own_node k context = by_box k (box_at d.nodes styles k) context refl

  one_place : (j k : ℕ) → j < length d.nodes → k < length d.nodes → slice_index (ids_of d.nodes) j ≡ slice_index (ids_of d.nodes) k → j ≡ k
  one_place j k before within e =
      ⊎_elim
      (λ low. absurd (doc.ids j k low within e))
      (λ high. ⊎_elim (λ low. absurd (doc.ids k j low before (sym e))) (λ also. omega (arith, high, also)) (cases_lt k j))
      (cases_lt j k)

  module _ (contexts : List Context) (of : AreContextsOf d.nodes styles contexts) where
    abbrev spots : List ContextSpot
    spots = of.spots

    abbrev place : ℕ → ℕ
    place i = (spot_at spots i).place

    id_is : (i : ℕ) → i < length contexts → (node_of contexts i).0 ≡ slice_index (ids_of d.nodes) (place i)
    id_is i within =
        let lt : i < length spots = omega (arith, within, of.numbered.count) in
        let numbered = of.numbered.each i within in
        let boxes : boxes_in contexts i ≡ boxes_of_place d.nodes styles (place i) =
        numbered.boxes_are ∙ get_or-map (λ (s : ContextSpot). boxes_of_place d.nodes styles s.place) spots i root_spot [] lt in
        ap (λ (bs : List BoxNode). (own_at bs 0).node.0) boxes ∙ own_node (place i) (of.are.are i lt)

    apart_places : (i j : ℕ) → i < length spots → j < length spots → place i ≡ place j → i ≡ j
    apart_places i j li lj e =
        ⊎_elim
        (λ low. absurd (let lt = of.are.rising i j low lj in omega (arith, lt, e)))
        (λ high. ⊎_elim (λ low. absurd (let lt = of.are.rising j i low li in omega (arith, lt, e))) (λ also. omega (arith, high, also)) (cases_lt j i))
        (cases_lt i j)

    apart : (i j : ℕ) → i < length contexts → j < length contexts → node_of contexts i ≡ node_of contexts j → i ≡ j
    apart i j li lj e =
        let a : i < length spots = omega (arith, li, of.numbered.count) in
        let b : j < length spots = omega (arith, lj, of.numbered.count) in
        let ids = sym (id_is i li) ∙ ap (λ (n : NodeId). n.0) e ∙ id_is j lj in
        apart_places i j a b
        (one_place (place i) (place j) (context_within d.nodes styles (place i) (of.are.are i a)) (context_within d.nodes styles (place j) (of.are.are j b)) ids)

pub contexts_are_of_own_nodes_lem : ContextsAreOfOwnNodes
contexts_are_of_own_nodes_lem d styles contexts doc same of = apart d styles doc same contexts of
