-- A box that is marked as that of an inner context has one: the context of its node, which stands there and nowhere else.
use Rattle.std.proofs.Common.{◌≡◌, ◌<◌, ◌↔◌, ℕ, Bool, true, false, All, List, length, slice_index, refl, ap, sym, subst, ◌∙◌, arith, inl, inr}
use Rattle.std.proofs.lemmas.Bool.{cases_lt}
use Rattle.std.proofs.lemmas.List.{get_or-map}
use Rattle.lay_style.specs.declared.style.Style.{Style}
use Rattle.lay_doc.specs.declared.node.Node.{Node}
use Rattle.lay_doc.specs.Document.{ids_of}
use Rattle.lay_boxgen.specs.declared.facts.Facts.{Facts}
use Rattle.lay_box_tree.specs.BoxColumns.{box_at, box_ids, no_box}
use Rattle.lay_box_tree.specs.ContextBoxes.{is_inner}
use Rattle.lay_box_tree.specs.declared.box_tree.BoxNode.{BoxNode}
use Rattle.lay_boxgen.specs.Contexts.{IsContextAt}
use Rattle.lay_boxgen.specs.InnerBoxes.{IsInnerContext}
use Rattle.lay_boxgen.specs.Listing.{box_node}
use Rattle.lay_cell_work.proofs.Cited.{all_boxes, are_contexts, boxes_there, contexts_are_noted, contexts_stand_once, inner_boxes_are_contexts, inner_of}
use Rattle.lay_contexts.specs.Contexts.{IsInside as IsInsideContext, boxes_in, context_at}
use Rattle.lay_contexts.specs.ContextTree.{StandsIn, boxes_of_place}
use Rattle.lay_contexts.specs.DocumentContexts.{spot_at}
use Rattle.lay_contexts.specs.declared.context_spot.ContextSpot.{ContextSpot}
use Rattle.lay_cell_work.specs.CellLaws.SameContexts.{IsSameContext, IsTable, Table, inner_number_at}

-- a box that is marked names a context behind the one at k
record Names (nodes : List Node) (styles : List Style) (k : ℕ) (b : BoxNode) : Type 0 where
  place : ℕ
  behind : k < place
  node : slice_index (ids_of nodes) place ≡ b.node.0
  context : IsContextAt nodes styles place

abbrev NamesWhereInner : List Node → List Style → ℕ → BoxNode → Type 0
NamesWhereInner nodes styles k b = b.inner ≡ true → Names nodes styles k b

says : (nodes : List Node) (styles : List Style) (k : ℕ) (above : Facts) (parent : ℕ) (f : Facts) → IsInnerContext nodes styles k f → NamesWhereInner nodes styles k (box_node nodes styles above parent f)
says nodes styles k above parent f p = λ inner. (let n = p inner in record { place = f.place; behind = n.behind; node = n.node; context = n.context })

module _ (t : Table) (is : IsTable t) (c k : ℕ) (lt : c < length t.contexts) (inside : k < length (boxes_in t.contexts c)) where
  abbrev Nodes : List Node
  Nodes = is.document.nodes

  abbrev Spots : List ContextSpot
  Spots = is.are_contexts.spots

  abbrev Here : ℕ
  Here = (spot_at Spots c).place

  here : boxes_in t.contexts c ≡ boxes_of_place Nodes is.styles Here
  here =
      (is.are_contexts.numbered.each c lt).boxes_are
      ∙ boxes_there is.document is.styles is.is_document is.counted Spots c (let n = is.are_contexts.numbered.count in omega (arith, lt, n))

  is_there : c < length Spots
  is_there = (let n = is.are_contexts.numbered.count in omega (arith, lt, n))

  -- a place in document order is that of one context
  same_spot : (i j : ℕ) → i < length Spots → j < length Spots → (spot_at Spots i).place ≡ (spot_at Spots j).place → i ≡ j
  same_spot i j li lj e = elim (cases_lt i j) [
    | inl low ↦ absurd (let r = is.are_contexts.are.rising i j low lj in omega (arith, r, e))
    | inr high ↦ elim (cases_lt j i) [
      | inl over ↦ absurd (let r = is.are_contexts.are.rising j i over li in omega (arith, r, e))
      | inr under ↦ omega (arith, high, under)
    ]
  ]

  names : is_inner (boxes_in t.contexts c) k ≡ true → Names Nodes is.styles Here (box_at (boxes_of_place Nodes is.styles Here) k)
  names marked =
      let context = is.are_contexts.are.are c is_there in
      let each : All (NamesWhereInner Nodes is.styles Here) (boxes_of_place Nodes is.styles Here) =
      all_boxes Nodes is.styles (IsInnerContext Nodes is.styles Here) (NamesWhereInner Nodes is.styles Here) (says Nodes is.styles Here) Here (inner_boxes_are_contexts Nodes is.styles Here context.generates) in
      let within : k < length (boxes_of_place Nodes is.styles Here) = (let n : length (boxes_in t.contexts c) ≡ length (boxes_of_place Nodes is.styles Here) = ap length here in omega (arith, inside, n)) in
      each k no_box within (inner_of (boxes_of_place Nodes is.styles Here) k ∙ ap (λ (boxes : List BoxNode). is_inner boxes k) (sym here) ∙ marked)

  ids_there : (boxes : List BoxNode) → k < length boxes → slice_index (box_ids boxes) k ≡ (box_at boxes k).node.0
  ids_there boxes within = get_or-map (λ (b : BoxNode). b.node.0) boxes k no_box 0 within

  some_inside : is_inner (boxes_in t.contexts c) k ≡ true → 0 < inner_number_at t c k
  some_inside marked =
      let n = names marked in
      let found = is.are_contexts.are.all n.place n.context in
      let i : ℕ = found.0 in
      let s : ContextSpot = spot_at Spots i in
      let behind = n.behind in
      let first : (spot_at Spots 0).place ≡ 0 = ap (λ (r : ContextSpot). r.place) is.are_contexts.are.root in
      let some : 0 < i = elim (cases_lt 0 i) [
        | inl low ↦ low
        | inr high ↦ absurd (let z : i ≡ 0 = omega (arith, high) in let e = ap (λ (j : ℕ). (spot_at Spots j).place) (sym z) in omega (arith, behind, first, e, found.2))
      ] in
      let inside_there : k < length (boxes_of_place Nodes is.styles Here) = (let m : length (boxes_in t.contexts c) ≡ length (boxes_of_place Nodes is.styles Here) = ap length here in omega (arith, inside, m)) in
      let once = contexts_stand_once is.document is.styles n.place is.is_document is.counted (omega (arith, behind)) n.context in
      let stands : StandsIn Nodes is.styles n.place Here k = record {
        within = inside_there;
        inner = ap (λ (boxes : List BoxNode). is_inner boxes k) (sym here) ∙ marked;
        node = ids_there (boxes_of_place Nodes is.styles Here) inside_there ∙ sym n.node;
      } in
      let here_only = once.only Here k (is.are_contexts.are.are c is_there) stands in
      let around = is.are_contexts.are.within i some found.1 in
      let there = is.are_contexts.are.stands i some found.1 in
      let moved : StandsIn Nodes is.styles n.place (spot_at Spots s.around).place s.at = subst (λ (p : ℕ). StandsIn Nodes is.styles p (spot_at Spots s.around).place s.at) found.2 there in
      let there_only = once.only (spot_at Spots s.around).place s.at (is.are_contexts.are.are s.around around) moved in
      let outer : s.around ≡ c = same_spot s.around c around is_there (there_only.0 ∙ sym here_only.0) in
      let at : s.at ≡ k = there_only.1 ∙ sym here_only.1 in
      let counted : i < length t.contexts = (let m = is.are_contexts.numbered.count in let l = found.1 in omega (arith, m, l)) in
      let spot = (is.are_contexts.numbered.each i counted).spot in
      let noted = contexts_are_noted is.document is.styles t.contexts i is.is_document is.counted is.are_contexts some counted in
      let outer_is : (context_at t.contexts i).outer ≡ c = ap (λ (x : ContextSpot). x.around) spot ∙ outer in
      let box_is : (context_at t.contexts i).outer_box ≡ k = ap (λ (x : ContextSpot). x.at) spot ∙ at in
      let number : inner_number_at t c k ≡ i = ap (λ (o : ℕ). slice_index (context_at t.contexts o).inner k) (sym outer_is) ∙ ap (slice_index (context_at t.contexts (context_at t.contexts i).outer).inner) (sym box_is) ∙ noted.number in
      omega (arith, some, number)

  -- and no other box has one
  marked_inside : 0 < inner_number_at t c k → is_inner (boxes_in t.contexts c) k ≡ true
  marked_inside some =
      let are = are_contexts is.document is.styles t.contexts is.is_document is.counted is.are_contexts in
      let p : ℕ = inner_number_at t c k in
      let has : IsInsideContext t.contexts c p = record { box = k; within = (let n = are.count c lt in omega (arith, n, inside)); number = refl; some = some } in
      let noted = contexts_are_noted is.document is.styles t.contexts p is.is_document is.counted is.are_contexts some (are.within c p lt has) in
      ap (λ (o : ℕ). is_inner (boxes_in t.contexts o) k) (sym (are.around c p lt has)) ∙ ap (is_inner (boxes_in t.contexts (context_at t.contexts p).outer)) (sym (are.at c p lt has)) ∙ noted.inner

  pub none_by : (b : Bool) → is_inner (boxes_in t.contexts c) k ≡ b → (inner_number_at t c k ≡ 0) ↔ (b ≡ false)
  none_by true marked = ((λ z. absurd (let s = some_inside marked in omega (arith, s, z))), (λ z. absurd cc))
  none_by false marked = (
    (λ z. refl),
    (λ z. elim (cases_lt 0 (inner_number_at t c k)) [
      | inl some ↦ absurd (let m : false ≡ true = sym marked ∙ marked_inside some in cc)
      | inr high ↦ omega (arith, high)
    ]),
  )

-- contexts with the same boxes have contexts inside at the same boxes
pub none_same : (a b : Table) → IsTable a → IsTable b → (c e : ℕ) → IsSameContext a b c e → (k : ℕ) → k < length (boxes_in a.contexts c) → (inner_number_at a c k ≡ 0) ↔ (inner_number_at b e k ≡ 0)
none_same a b is_a is_b c e same k inside =
    let inside_b : k < length (boxes_in b.contexts e) = (let n : length (boxes_in a.contexts c) ≡ length (boxes_in b.contexts e) = ap length same.boxes in omega (arith, inside, n)) in
    let flag : is_inner (boxes_in a.contexts c) k ≡ is_inner (boxes_in b.contexts e) k = ap (λ (boxes : List BoxNode). is_inner boxes k) same.boxes in
    let x = none_by a is_a c k same.within inside (is_inner (boxes_in b.contexts e) k) flag in
    let y = none_by b is_b e k same.there inside_b (is_inner (boxes_in b.contexts e) k) refl in
    ((λ z. y.1 (x.0 z)), (λ z. x.1 (y.0 z)))
