-- Where the box of a context stands in the one around it is known by the nodes of the boxes there: so it is the same place where both
-- contexts have the same boxes.
use Rattle.std.proofs.Common.{◌≡◌, ◌<◌, ℕ, Bool, true, false, IsTrue, List, [], ◌∷◌, length, slice_get, slice_index, Option, None, Some, option_map, refl, ap, sym, subst, ◌∙◌, arith}
use Rattle.std.proofs.lemmas.Option.{get_or_from_slice_get, slice_get-map}
use Rattle.lay_style.specs.declared.style.Style.{Style}
use Rattle.lay_style.specs.ComputedStyle.{style_at}
use Rattle.lay_doc.specs.declared.node.Node.{Node}
use Rattle.lay_doc.specs.declared.node.NodeId.{NodeId}
use Rattle.lay_doc.specs.Document.{Document, IsDocument, ids_of}
use Rattle.lay_boxgen.specs.Boxes.{Tree, Trees, tree, trees_of}
use Rattle.lay_boxgen.specs.declared.facts.Facts.{Facts}
use Rattle.lay_box_tree.specs.BoxColumns.{box_ids}
use Rattle.lay_box_tree.specs.ContextBoxes.{is_inner}
use Rattle.lay_box_tree.specs.declared.box_tree.BoxNode.{BoxNode}
use Rattle.lay_boxgen.specs.Contexts.{IsContextAt, box_at, box_of_node, is_marked}
use Rattle.lay_boxgen.specs.Laws.{inner_boxes}
use Rattle.lay_boxgen.specs.Listing.{listed_part}
use Rattle.lay_boxgen.specs.NodeBoxes.{node_box}
use Rattle.lay_boxgen.specs.NodeTrees.{as_own, box_with, tree_at}
use Rattle.lay_boxgen.specs.Parts.{nothing, put_list}
use Rattle.lay_cell_work.proofs.Cited.{are_contexts, box_within, boxes_there, children_stand_in_order, context_is_one_box, contexts_are_noted, contexts_stand_once, is-node_box, IsNodeBox, of_node}
use Rattle.lay_contexts.specs.Contexts.{boxes_in, context_at}
use Rattle.lay_contexts.specs.ContextTree.{StandsIn, boxes_of_place}
use Rattle.lay_contexts.specs.DocumentContexts.{spot_at}
use Rattle.lay_contexts.specs.NodeTreeLaws.{child_trees, children_places}
use Rattle.lay_contexts.specs.declared.context_spot.ContextSpot.{ContextSpot}
use Rattle.lay_cell_work.specs.CellLaws.SameContexts.{IsSameContext, IsTable, Table}

is_true : (b : Bool) → IsTrue b → b ≡ true
is_true true h = refl
is_true false h = cc

-- the own box of a context is of its node
module _ (d : Document) (styles : List Style) (k : ℕ) (doc : IsDocument d) (same : length styles ≡ length d.nodes) (context : IsContextAt d.nodes styles k) where
  own_first : (f : Facts) (us : Trees) → slice_index (box_ids (listed_part d.nodes styles (put_list nothing (tree (as_own f) us ∷ [])))) 0 ≡ f.node.0
  own_first f us = refl

  own_node : (f : Facts) → box_at d.nodes styles k ≡ Some f → slice_index (box_ids (boxes_of_place d.nodes styles k)) 0 ≡ f.node.0
  own_node f e =
      let n = of_node d.nodes styles k f e in
      let marked : f.inner ≡ true = is_true f.inner (subst (λ (o : Option Facts). IsTrue (is_marked o)) e context.establishes) in
      let lt = box_within d.nodes styles k f e in
      let cs : List Tree = child_trees d.nodes styles (children_places d.nodes k) in
      let mine : tree_at d.nodes styles k ≡ Some (tree f (trees_of cs)) = children_stand_in_order d styles k doc same lt ∙ ap (λ (o : Option Facts). box_with o cs) e in
      let one = context_is_one_box d.nodes styles k f (trees_of cs) mine (n.no_inline marked) in
      ap (λ (ts : List Tree). slice_index (box_ids (listed_part d.nodes styles (put_list nothing ts))) 0) one ∙ own_first f (inner_boxes d.nodes styles f)

  id_by : (f : Facts) → box_at d.nodes styles k ≡ Some f → (o : Option Node) → slice_get d.nodes k ≡ o → f.node.0 ≡ slice_index (ids_of d.nodes) k
  id_by f e None get = absurd (let never : None ≡ Some f = sym (ap (λ (o : Option Node). box_of_node k o (style_at styles k)) get) ∙ e in cc)
  id_by f e (Some n) get =
      let s : Style = style_at styles k in
      let here : node_box k n s ≡ Some f = sym (ap (λ (o : Option Node). box_of_node k o s) get) ∙ e in
      let b = subst (IsNodeBox k n) here (is-node_box k n s) in
      let there : slice_get (ids_of d.nodes) k ≡ Some n.id.0 = slice_get-map (λ (m : Node). m.id.0) d.nodes k ∙ ap (option_map (λ (m : Node). m.id.0)) get in
      ap (λ (i : NodeId). i.0) b.node ∙ sym (get_or_from_slice_get (ids_of d.nodes) k n.id.0 0 there)

  id_of : (o : Option Facts) → box_at d.nodes styles k ≡ o → slice_index (box_ids (boxes_of_place d.nodes styles k)) 0 ≡ slice_index (ids_of d.nodes) k
  id_of None e = absurd (let never : false ≡ true = is_true false (subst (λ (o : Option Facts). IsTrue (is_marked o)) e context.establishes) in cc)
  id_of (Some f) e = own_node f e ∙ id_by f e (slice_get d.nodes k) refl

  own_id : slice_index (box_ids (boxes_of_place d.nodes styles k)) 0 ≡ slice_index (ids_of d.nodes) k
  own_id = id_of (box_at d.nodes styles k) refl

module _ (t : Table) (is : IsTable t) where
  abbrev Nodes : List Node
  Nodes = is.document.nodes

  abbrev Spots : List ContextSpot
  Spots = is.are_contexts.spots

  abbrev Place : ℕ → ℕ
  Place c = (spot_at Spots c).place

  is_there : (c : ℕ) → c < length t.contexts → c < length Spots
  is_there c lt = (let n = is.are_contexts.numbered.count in omega (arith, lt, n))

  boxes_are_of : (c : ℕ) → c < length t.contexts → boxes_in t.contexts c ≡ boxes_of_place Nodes is.styles (Place c)
  boxes_are_of c lt = (is.are_contexts.numbered.each c lt).boxes_are ∙ boxes_there is.document is.styles is.is_document is.counted Spots c (is_there c lt)

  context_there : (c : ℕ) → c < length t.contexts → IsContextAt Nodes is.styles (Place c)
  context_there c lt = is.are_contexts.are.are c (is_there c lt)

  -- the id of a context's node
  id_is : (c : ℕ) → c < length t.contexts → slice_index (box_ids (boxes_in t.contexts c)) 0 ≡ slice_index (ids_of Nodes) (Place c)
  id_is c lt = ap (λ (boxes : List BoxNode). slice_index (box_ids boxes) 0) (boxes_are_of c lt) ∙ own_id is.document is.styles (Place c) is.is_document is.counted (context_there c lt)

  module _ (c : ℕ) (some : 0 < c) (lt : c < length t.contexts) where
    abbrev Outer : ℕ
    Outer = (context_at t.contexts c).outer

    abbrev OuterBox : ℕ
    OuterBox = (context_at t.contexts c).outer_box

    outer_lt : Outer < length t.contexts
    outer_lt =
        let before = (are_contexts is.document is.styles t.contexts is.is_document is.counted is.are_contexts).outer c some lt in
        omega (arith, before, lt)

    stands : StandsIn Nodes is.styles (Place c) (Place Outer) OuterBox
    stands =
        let spot = (is.are_contexts.numbered.each c lt).spot in
        let outer : Outer ≡ (spot_at Spots c).around = ap (λ (x : ContextSpot). x.around) spot in
        let box : OuterBox ≡ (spot_at Spots c).at = ap (λ (x : ContextSpot). x.at) spot in
        let there = is.are_contexts.are.stands c some (is_there c lt) in
        subst (λ (o : ℕ). StandsIn Nodes is.styles (Place c) (Place o) OuterBox) (sym outer)
        (subst (λ (k : ℕ). StandsIn Nodes is.styles (Place c) (Place (spot_at Spots c).around) k) (sym box) there)

    -- its box is marked, and of its node
    box_marked : is_inner (boxes_in t.contexts Outer) OuterBox ≡ true
    box_marked = (contexts_are_noted is.document is.styles t.contexts c is.is_document is.counted is.are_contexts some lt).inner

    pub box_id : slice_index (box_ids (boxes_in t.contexts Outer)) OuterBox ≡ slice_index (box_ids (boxes_in t.contexts c)) 0
    box_id = ap (λ (boxes : List BoxNode). slice_index (box_ids boxes) OuterBox) (boxes_are_of Outer outer_lt) ∙ stands.node ∙ sym (id_is c lt)

    -- and no other one there is
    only_box : (m : ℕ) → m < length (boxes_in t.contexts Outer) → is_inner (boxes_in t.contexts Outer) m ≡ true
        → slice_index (box_ids (boxes_in t.contexts Outer)) m ≡ slice_index (box_ids (boxes_in t.contexts c)) 0 → OuterBox ≡ m
    only_box m inside marked id =
        let outer = boxes_are_of Outer outer_lt in
        let other : StandsIn Nodes is.styles (Place c) (Place Outer) m = record {
          within = (let n : length (boxes_in t.contexts Outer) ≡ length (boxes_of_place Nodes is.styles (Place Outer)) = ap length outer in omega (arith, inside, n));
          inner = ap (λ (boxes : List BoxNode). is_inner boxes m) (sym outer) ∙ marked;
          node = ap (λ (boxes : List BoxNode). slice_index (box_ids boxes) m) (sym outer) ∙ id ∙ id_is c lt;
        } in
        let first : Place 0 ≡ 0 = ap (λ (r : ContextSpot). r.place) is.are_contexts.are.root in
        let later = is.are_contexts.are.rising 0 c some (is_there c lt) in
        let once = contexts_stand_once is.document is.styles (Place c) is.is_document is.counted (omega (arith, first, later)) (context_there c lt) in
        (once.only (Place Outer) OuterBox (context_there Outer outer_lt) stands).1 ∙ sym (once.only (Place Outer) m (context_there Outer outer_lt) other).1

-- in contexts with the same boxes the box of a context stands at the same place
pub outer_boxes_same : (a b : Table) → IsTable a → IsTable b → (c e : ℕ) → 0 < c → 0 < e → IsSameContext a b c e → IsSameContext a b (context_at a.contexts c).outer (context_at b.contexts e).outer
    → (context_at a.contexts c).outer_box ≡ (context_at b.contexts e).outer_box
outer_boxes_same a b is_a is_b c e some_a some_b own around =
    let m : ℕ = (context_at b.contexts e).outer_box in
    let there = (are_contexts is_b.document is_b.styles b.contexts is_b.is_document is_b.counted is_b.are_contexts).outer_box e some_b own.there in
    let count : length (boxes_in a.contexts (context_at a.contexts c).outer) ≡ length (boxes_in b.contexts (context_at b.contexts e).outer) = ap length around.boxes in
    only_box a is_a c some_a own.within m (omega (arith, there, count))
    (ap (λ (boxes : List BoxNode). is_inner boxes m) around.boxes ∙ box_marked b is_b e some_b own.there)
    (ap (λ (boxes : List BoxNode). slice_index (box_ids boxes) m) around.boxes ∙ box_id b is_b e some_b own.there ∙ ap (λ (boxes : List BoxNode). slice_index (box_ids boxes) 0) (sym own.boxes))
