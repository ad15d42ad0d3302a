-- The contexts of a document stand in order, and each has boxes.
use Rattle.std.proofs.Common.{◌≡◌, ◌<◌, ℕ, List, [], ◌∷◌, length, refl, ap, sym, subst, ◌∙◌, ◌+◌, true, arith, Option, Some, None, IsTrue}
use Rattle.std.proofs.lemmas.List.{get_or-map, length-map}
use Rattle.lay_style.specs.declared.style.Style.{Style}
use Rattle.lay_doc.specs.Document.{Document, IsDocument}
use Rattle.lay_boxgen.specs.Boxes.{Tree, tree, trees_of}
use Rattle.lay_boxgen.specs.Contexts.{IsContextAt, box_at, is_marked}
use Rattle.lay_boxgen.specs.Laws.{inner_boxes}
use Rattle.lay_boxgen.specs.Listing.{listed_part}
use Rattle.lay_boxgen.specs.NodeTrees.{as_child, as_own, box_with, children_of, tree_at}
use Rattle.lay_boxgen.specs.Parts.{nothing, part, put_list, whole}
use Rattle.lay_boxgen.specs.declared.facts.Facts.{Facts}
use Rattle.lay_contexts.proofs.Cited.{boxes_are_a_tree_lem, context_is_one_box, inner_boxes_are_leaves_lem, is-node_box, IsNodeBox}
use Rattle.lay_box_tree.specs.ContextBoxes.{AreContextBoxes}
use Rattle.lay_contexts.specs.ContextTree.{boxes_of_place}
use Rattle.lay_contexts.specs.DocumentContexts.{AreDocumentContexts, root_spot, spot_at}
use Rattle.lay_contexts.specs.declared.context_spot.ContextSpot.{ContextSpot}
use Rattle.lay_contexts.proofs.Members.{forest, node-at, tree-is}
use Rattle.lay_contexts.proofs.OneList.{contexts_stand_in_order}
use Rattle.lay_contexts.proofs.OneStand.{marked-true, within}
use Rattle.lay_contexts.specs.ContextList.{boxes_at, boxes_of_spots}
use Rattle.lay_contexts.specs.ContextOrder.{AreInOrder}

module _ (d : Document) (styles : List Style) (doc : IsDocument d) (same : length styles ≡ length d.nodes) where
  -- the box of a node that has one
  pub has_box : (o : Option Facts) → IsTrue (is_marked o) → (f : Facts) × (o ≡ Some f) × (f.inner ≡ true)
  has_box None marked = absurd cc
  has_box (Some f) marked = (f, refl, marked-true f.inner marked)

  -- a context has boxes, its own first
  pub some_boxes : (k : ℕ) → IsContextAt d.nodes styles k → 0 < length (boxes_of_place d.nodes styles k)
  some_boxes k context =
      let lt = within d.nodes styles k (marked-true (is_marked (box_at d.nodes styles k)) context.establishes) in
      let n = node-at d.nodes styles doc.tree same k lt in
      let b = has_box (box_at d.nodes styles k) context.establishes in
      let cs : List Tree = children_of as_child k (forest d.nodes styles doc.tree same (k + 1)) in
      let mine : tree_at d.nodes styles k ≡ Some (tree b.0 (trees_of cs)) = tree-is d.nodes styles doc.tree same k n ∙ ap (λ (o : Option Facts). box_with o cs) (sym n.box ∙ b.1) in
      let box = subst (IsNodeBox k n.node) (sym n.box ∙ b.1) (is-node_box k n.node n.style) in
      let one = context_is_one_box d.nodes styles k b.0 (trees_of cs) mine (box.context b.2) in
      listed (tree (as_own b.0) (inner_boxes d.nodes styles b.0)) one
    where
      first : (t : Tree) → 0 < length (listed_part d.nodes styles (put_list nothing (t ∷ [])))
      first (tree f us) = omega arith

      listed : (t : Tree) → whole d.nodes styles k ≡ t ∷ [] → 0 < length (boxes_of_place d.nodes styles k)
      listed t e = rw e (first t)

  pub context_boxes : (k : ℕ) → IsContextAt d.nodes styles k → AreContextBoxes (boxes_of_place d.nodes styles k)
  context_boxes k context =
      let leaves = inner_boxes_are_leaves_lem d.nodes styles k in
      record { some = some_boxes k context; tree = boxes_are_a_tree_lem d.nodes styles (part d.nodes styles k); own = leaves.own; parents = leaves.parents }

  pub boxes_there : (spots : List ContextSpot) (i : ℕ) → i < length spots → boxes_at (boxes_of_spots d.nodes styles spots) i ≡ boxes_of_place d.nodes styles (spot_at spots i).place
  boxes_there spots i lt = get_or-map (λ (s : ContextSpot). boxes_of_place d.nodes styles s.place) spots i root_spot [] lt

  pub are_in_order : (spots : List ContextSpot) → AreDocumentContexts d.nodes styles spots → AreInOrder spots (boxes_of_spots d.nodes styles spots)
  are_in_order spots are =
      let counted : length (boxes_of_spots d.nodes styles spots) ≡ length spots = length-map spots (λ (s : ContextSpot). boxes_of_place d.nodes styles s.place) in
      record {
        count = sym counted;
        around = λ i later lt. contexts_stand_in_order d styles spots i doc same are later lt;
        within = λ i later lt. rw (boxes_there spots (spot_at spots i).around (are.within i later lt)) (are.stands i later lt).within;
        each = λ i lt. (let l : i < length spots = omega (arith, counted) in rw (boxes_there spots i l) (context_boxes (spot_at spots i).place (are.are i l)));
      }
