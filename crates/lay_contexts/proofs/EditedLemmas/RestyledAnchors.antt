-- An edit of declarations of an absolute or fixed element keeps the boxes of all contexts but its own and those inside it.
use Rattle.std.proofs.Common.{set, ◌≡◌, ◌⊎◌, inl, inr, ℕ, zero, suc, ◌<◌, true, false, List, [], ◌∷◌, length, refl, ap, sym, subst, ◌∙◌, arith, Option, None, Some, option_map, slice_get, slice_index}
use Rattle.std.proofs.lemmas.Bool.{cases_eq}
use Rattle.std.proofs.lemmas.List.{get_or-set_other, get_or-set_same, length-set}
use Rattle.lay_style.specs.declared.style.Style.{Style}
use Rattle.lay_style.specs.ComputedStyle.{style_at}
use Rattle.lay_style.specs.InitialStyle.{initial_style}
use Rattle.lay_style.specs.Places.{place_of}
use Rattle.lay_contexts.proofs.Cited.{edits_leave_documents, has_subtree_lem, is-node_box, IsBoxOf, IsNodeBox, length-changed, length-ids, place_within}
use Rattle.lay_doc.specs.declared.edit.Edit.{Edit}
use Rattle.lay_doc.specs.declared.edit.Edit.TheVariants.{SetStyle, ClearStyle, SetText, Insert, Remove, Bad}
use Rattle.lay_doc.specs.declared.node.Node.{Node}
use Rattle.lay_doc.specs.Changes.{changed_at, with_style, without_style}
use Rattle.lay_doc.specs.Document.{Document, IsDocument, ids_of, parents_of}
use Rattle.lay_doc.specs.Edits.{after}
use Rattle.lay_doc.specs.Tree.{IsUnder, child, itself}
use Rattle.lay_doc.proofs.NodeColumns.{length-parents}
use Rattle.lay_boxgen.specs.Forms.{is_absolute}
use Rattle.lay_boxgen.specs.declared.facts.Facts.{Facts}
use Rattle.lay_boxgen.specs.Contexts.{IsContext, IsContextAt, IsContextThere, box_at, box_of_node, is_marked}
use Rattle.lay_boxgen.specs.Listing.{boxes_at}
use Rattle.lay_contexts.specs.ContextTree.{IsAround, boxes_of_place, further, parent, parent_of}
use Rattle.lay_contexts.proofs.OneStand.{marked-true}
use Rattle.lay_contexts.specs.Edited.Anchors.{AnchorsKeepContextsAround, HasAbsoluteBox, ReachesNode}
use Rattle.lay_contexts.specs.Edited.Reached.{IsReached, IsUnderThere, place_in, subject_of}
use Rattle.lay_contexts.specs.Edited.Touched.{Edits, IsOwn, KeepsBoxes, element, inside}
use Rattle.lay_contexts.proofs.EditedLemmas.AnchoredStyles.{same-boxes}
use Rattle.lay_contexts.proofs.EditedLemmas.ChangedNodes.{changed-keeping, ids-stay, parents-stay}
use Rattle.lay_contexts.proofs.EditedLemmas.EditedContexts.{named-by-style, restyled}
use Rattle.lay_contexts.proofs.EditedLemmas.KeptContexts.{Keeping, Styled, reached-known}
use Rattle.lay_contexts.proofs.EditedLemmas.OwnImage.{boxes-kept}
use Rattle.lay_contexts.proofs.EditedLemmas.OwnList.{got}
use Rattle.lay_contexts.proofs.EditedLemmas.SameTrees.{SameNode, SameTree, at_place, back, same-box, same-context, same-mark, same-style, turned}

-- an absolute or fixed box is that of a context
absolute-inner : (k : ℕ) (o : Option Node) (s : Style) (f : Facts) → box_of_node k o s ≡ Some f → is_absolute f.flow ≡ true → f.inner ≡ true
absolute-inner k None s f e a = absurd cc
absolute-inner k (Some n) s f e a = let b : IsNodeBox k n (Some f) = subst (IsNodeBox k n) e (is-node_box k n s) in let c : IsBoxOf k n f = b in c.inner a

absolute-marked : (nodes : List Node) (styles : List Style) (k : ℕ) (f : Facts) → box_at nodes styles k ≡ Some f → is_absolute f.flow ≡ true → is_marked (box_at nodes styles k) ≡ true
absolute-marked nodes styles k f e a = ap is_marked e ∙ absolute-inner k (slice_get nodes k) (style_at styles k) f e a

-- nodes below a context have it around them, or one inside it
around-under : (nodes : List Node) (styles : List Style) (p k a : ℕ) → IsAround nodes styles k a → IsUnder (parents_of nodes) p k → (k ≡ p → ⊥) → is_marked (box_at nodes styles p) ≡ true
    → IsUnder (parents_of nodes) p a
around-under nodes styles p k a h under other marked = by k a h (up k under other)
  where
    up : (k : ℕ) → IsUnder (parents_of nodes) p k → (k ≡ p → ⊥) → IsUnder (parents_of nodes) p (parent_of nodes k)
    up _ itself other = absurd (other refl)
    up _ (child k positive u) other = u

    by : (k a : ℕ) → IsAround nodes styles k a → IsUnder (parents_of nodes) p (parent_of nodes k) → IsUnder (parents_of nodes) p a
    by _ _ (parent k positive e) u = u
    by _ _ (further k a positive e above) u =
        by (parent_of nodes k) a above (up (parent_of nodes k) u (λ is. (let z : false ≡ true = sym e ∙ (ap (λ (j : ℕ). is_marked (box_at nodes styles j)) is ∙ marked) in cc)))

-- of the nodes below p, a context that isn't there has p alone among its own
own-under : (nodes : List Node) (styles : List Style) (p a k : ℕ) → is_marked (box_at nodes styles p) ≡ true → (IsUnder (parents_of nodes) p a → ⊥) → IsOwn nodes styles a k → IsUnder (parents_of nodes) p k → k ≡ p
own-under nodes styles p a _ marked outside element under = absurd (outside under)
own-under nodes styles p a _ marked outside (inside k h) under = elim (cases_eq k p) [
  | inl is ↦ is
  | inr other ↦ absurd (outside (around-under nodes styles p k a h under other marked))
]

changed-like : (f : Node → Node) → ((n : Node) → (f n).id ≡ n.id) → ((n : Node) → (f n).kind ≡ n.kind) → ((n : Node) → (f n).text ≡ n.text)
    → (p k : ℕ) (ns : List Node) (n : Node) → slice_get ns k ≡ Some n
    → (o : Node) × (slice_get (changed_at p f ns) k ≡ Some o) × (n.id ≡ o.id) × (n.kind ≡ o.kind) × (n.text ≡ o.text)
changed-like f i d t p k [] n e = absurd cc
changed-like f i d t zero zero (x ∷ xs) n e = let h : x ≡ n = cc in (f x, refl, ap (λ (y : Node). y.id) (sym h) ∙ sym (i x), ap (λ (y : Node). y.kind) (sym h) ∙ sym (d x), ap (λ (y : Node). y.text) (sym h) ∙ sym (t x))
changed-like f i d t zero (suc k) (x ∷ xs) n e = (n, e, refl, refl, refl)
changed-like f i d t (suc p) zero (x ∷ xs) n e = (n, e, refl, refl, refl)
changed-like f i d t (suc p) (suc k) (x ∷ xs) n e = changed-like f i d t p k xs n e

module _ (d : Document) (edit : Edit) (p : ℕ) (f : Node → Node) (doc : IsDocument d) (named : place_in (ids_of d.nodes) (subject_of edit) ≡ Some p) (has : p < length d.nodes)
    (same_id : (n : Node) → (f n).id ≡ n.id) (same_parent : (n : Node) → (f n).parent ≡ n.parent) (same_kind : (n : Node) → (f n).kind ≡ n.kind) (same_text : (n : Node) → (f n).text ≡ n.text)
    (ss ts : List Style) (here : Styled d ss) (elsewhere : Styled (record d { nodes = changed_at p f d.nodes }) ts)
    (box box_too : Facts) (there : box_at d.nodes ss p ≡ Some box) (there_too : box_at (changed_at p f d.nodes) ts p ≡ Some box_too)
    (absolute : is_absolute box.flow ≡ true) (absolute_too : is_absolute box_too.flow ≡ true) where
  abbrev changed : Document
  changed = record d { nodes = changed_at p f d.nodes }

  abbrev Below : ℕ → Type 0
  Below k = IsUnder (parents_of d.nodes) p k

  abbrev Stays : ℕ → ℕ → Type 0
  Stays k m = (k ≡ m) × (k < length d.nodes) × (Below k → ⊥)

  -- the same place, where of the nodes below p that is p alone
  abbrev Like : ℕ → ℕ → Type 0
  Like k m = (k ≡ m) × (k < length d.nodes) × (Below k → k ≡ p)

  -- the styles after the edit, but at p the one before
  abbrev mixed : List Style
  mixed = set ts p (style_at ss p)

  keep : Keeping d changed (IsReached d edit) (IsReached changed edit) Stays
  keep = changed-keeping d edit p f doc named same_id same_parent

  parents-are : parents_of changed.nodes ≡ parents_of d.nodes
  parents-are = parents-stay d edit p f doc named same_id same_parent

  count : length changed.nodes ≡ length d.nodes
  count = length-changed f p d.nodes

  count-styles : length ts ≡ length changed.nodes
  count-styles = elsewhere.has.length_is ∙ length-parents changed.nodes

  count-mixed : length mixed ≡ length changed.nodes
  count-mixed = length-set ts p (style_at ss p) ∙ count-styles

  p-in : p < length ts
  p-in = omega (arith, has, count, count-styles)

  like-node : (k m : ℕ) → Like k m → SameNode d.nodes changed.nodes k m
  like-node k m r =
      let g = got d.nodes k r.1 in
      let o = changed-like f same_id same_kind same_text p k d.nodes g.0 g.1 in
      record { one = g.0; other = o.0; here = g.1; there = ap (slice_get changed.nodes) (sym r.0) ∙ o.1; id = o.2; kind = o.3; text = o.4 }

  parent-apart : (k : ℕ) → 0 < k → k < length d.nodes → (Below k → k ≡ p) → Below (parent_of d.nodes k) → parent_of d.nodes k ≡ p
  parent-apart k positive lt alone u =
      let is = alone (child k positive u) in
      let before = doc.tree.before k positive (omega (arith, lt, length-parents d.nodes)) in
      let from = ((has_subtree_lem (parents_of d.nodes) p (parent_of d.nodes k) doc.tree (omega (arith, has, length-parents d.nodes)) (omega (arith, before, lt, length-parents d.nodes))).0 u).0 in
      absurd (omega (arith, is, before, from))

  like-parent : (k m : ℕ) → Like k m → 0 < k → (0 < m) × Like (parent_of d.nodes k) (parent_of changed.nodes m)
  like-parent k m r positive =
      let is = r.0 in
      let lt = r.1 in
      let before = doc.tree.before k positive (omega (arith, lt, length-parents d.nodes)) in (
        omega (arith, positive, is),
        (
          ap (λ (j : ℕ). parent_of d.nodes j) is ∙ ap (λ (xs : List ℕ). slice_index xs m) (sym parents-are),
          omega (arith, before, lt),
          parent-apart k positive lt r.2,
        ),
      )

  like : SameTree d.nodes changed.nodes Like
  like = record {
    node = like-node;
    rising = λ j l k m a b less. (let x = a.0 in let y = b.0 in omega (arith, less, x, y));
    falling = λ j l k m a b less. (let x = a.0 in let y = b.0 in omega (arith, less, x, y));
    root = λ k m r positive. (let x = r.0 in omega (arith, positive, x));
    parent = like-parent;
  }

  stays-styled : (k m : ℕ) → Stays k m → style_at ss k ≡ style_at ts m
  stays-styled k m r = same-style d.nodes changed.nodes ss ts Stays keep.same keep.declared here.document.tree here.has elsewhere.has k m r

  mixed-other : (k : ℕ) → (k ≡ p → ⊥) → style_at mixed k ≡ style_at ts k
  mixed-other k other = get_or-set_other ts p k (style_at ss p) initial_style other

  like-styled : (k m : ℕ) → Like k m → style_at ss k ≡ style_at mixed m
  like-styled k m r = elim (cases_eq k p) [
    | inl is ↦ ap (style_at ss) is ∙ (sym (get_or-set_same ts p (style_at ss p) initial_style p-in) ∙ ap (style_at mixed) (sym is ∙ r.0))
    | inr other ↦ stays-styled k m (r.0, r.1, λ u. other (r.2 u)) ∙ sym (mixed-other m (λ is. other (r.0 ∙ is)))
  ]

  p-like : Like p p
  p-like = (refl, has, λ u. refl)

  mixed-box : box_at changed.nodes mixed p ≡ Some (at_place p box)
  mixed-box = same-box d.nodes changed.nodes ss mixed Like like like-styled p p p-like ∙ ap (option_map (at_place p)) there

  module _ (a : ℕ) (lt : a < length d.nodes) (outside : Below a → ⊥) where
    a-like : Like a a
    a-like = (refl, lt, λ u. absurd (outside u))

    a-stays : Stays a a
    a-stays = (refl, lt, outside)

    other : a ≡ p → ⊥
    other is = outside (subst Below (sym is) itself)

    outside-there : IsUnder (parents_of changed.nodes) p a → ⊥
    outside-there u = outside (subst (λ (xs : List ℕ). IsUnder xs p a) parents-are u)

    forth : (k : ℕ) → k < length d.nodes → IsOwn d.nodes ss a k → Like k k
    forth k in_nodes own = (refl, in_nodes, own-under d.nodes ss p a k (absolute-marked d.nodes ss p box there absolute) outside own)

    from : (m : ℕ) → m < length changed.nodes → IsOwn changed.nodes mixed a m → (k : ℕ) × Like k m
    from m in_nodes own = (
      m,
      (
        refl,
        omega (arith, in_nodes, count),
        λ u. own-under changed.nodes mixed p a m (absolute-marked changed.nodes mixed p (at_place p box) mixed-box absolute) outside-there own
            (subst (λ (xs : List ℕ). IsUnder xs p m) (sym parents-are) u),
      ),
    )

    boxes-stay : IsContextAt d.nodes ss a → boxes_of_place d.nodes ss a ≡ boxes_of_place changed.nodes ts a
    boxes-stay context =
        let marked : is_marked (box_at changed.nodes mixed a) ≡ true =
        same-mark d.nodes changed.nodes ss mixed Like like like-styled a a a-like ∙ marked-true (is_marked (box_at d.nodes ss a)) context.establishes in
        boxes-kept d changed ss mixed Like doc elsewhere.document (here.has.length_is ∙ length-parents d.nodes) count-mixed like like-styled a a a-like (λ k. k) forth from context
        ∙ same-boxes changed.nodes elsewhere.document.tree p mixed ts count-mixed count-styles mixed-other (at_place p box) box_too mixed-box there_too absolute absolute_too a other (omega (arith, lt, count)) marked

    context-there : IsContextAt d.nodes ss a → IsContextAt changed.nodes ts a
    context-there c = same-context d.nodes changed.nodes ss ts Stays keep.same stays-styled a a a-stays c

    context-here : IsContextAt changed.nodes ts a → IsContextAt d.nodes ss a
    context-here c = same-context changed.nodes d.nodes ts ss (back Stays) (turned d.nodes changed.nodes Stays keep.same) (λ m k r. sym (stays-styled k m r)) a a a-stays c

  -- the context of a node that isn't below p, in either document
  outside-keeps : (id a : ℕ) → place_of id (ids_of d.nodes) ≡ Some a → (Below a → ⊥) → IsContextAt d.nodes ss a → KeepsBoxes d changed ss ts id
  outside-keeps id a is outside context =
      let lt : a < length d.nodes = (let w = place_within id (ids_of d.nodes) a is in omega (arith, w, length-ids d.nodes)) in
      let is_there : place_of id (ids_of changed.nodes) ≡ Some a = ap (place_of id) (ids-stay d edit p f doc named same_id same_parent) ∙ is in
      record {
        before = subst (IsContextThere d.nodes ss) (sym is) context;
        after = subst (IsContextThere changed.nodes ts) (sym is_there) (context-there a lt outside context);
        boxes = ap (boxes_at d.nodes ss) is ∙ (boxes-stay a lt outside context ∙ sym (ap (boxes_at changed.nodes ts) is_there));
      }

  answer-at : (id a : ℕ) → place_of id (ids_of d.nodes) ≡ Some a → ((Below a → ⊥) → IsContextAt d.nodes ss a) → KeepsBoxes d changed ss ts id ⊎ ReachesNode d edit id
  answer-at id a is context =
      let lt : a < length d.nodes = (let w = place_within id (ids_of d.nodes) a is in omega (arith, w, length-ids d.nodes)) in
      elim (reached-known d edit doc a lt) [
        | inl reached ↦ inr (record { place = a; named = is; reached = reached })
        | inr apart ↦ (let outside : Below a → ⊥ = λ u. apart (subst (λ (o : Option ℕ). IsUnderThere (parents_of d.nodes) o a) (sym named) u) in
            inl (outside-keeps id a is outside (context outside)))
      ]

  pub anchored : (id : ℕ) → IsContext d ss id ⊎ IsContext changed ts id → KeepsBoxes d changed ss ts id ⊎ ReachesNode d edit id
  anchored id (inl context) = by (place_of id (ids_of d.nodes)) refl context
    where
      by : (o : Option ℕ) → place_of id (ids_of d.nodes) ≡ o → IsContextThere d.nodes ss o → KeepsBoxes d changed ss ts id ⊎ ReachesNode d edit id
      by None e h = absurd h
      by (Some a) e h = answer-at id a e (λ outside. h)
  anchored id (inr context) = by (place_of id (ids_of changed.nodes)) refl context
    where
      by : (o : Option ℕ) → place_of id (ids_of changed.nodes) ≡ o → IsContextThere changed.nodes ts o → KeepsBoxes d changed ss ts id ⊎ ReachesNode d edit id
      by None e h = absurd h
      by (Some a) e h =
          let is : place_of id (ids_of d.nodes) ≡ Some a = ap (place_of id) (sym (ids-stay d edit p f doc named same_id same_parent)) ∙ e in
          let lt : a < length d.nodes = (let w = place_within id (ids_of d.nodes) a is in omega (arith, w, length-ids d.nodes)) in
          answer-at id a is (λ outside. context-here a lt outside h)

module _ (d : Document) (edit : Edit) (ss ts : List Style) (edits : Edits d edit ss ts) (name id : ℕ) (before : HasAbsoluteBox d ss name) (later : HasAbsoluteBox (after d edit) ts name)
    (context : IsContext d ss id ⊎ IsContext (after d edit) ts id) where
  restyled-anchor : (p : ℕ) (f : Node → Node) → place_in (ids_of d.nodes) (subject_of edit) ≡ Some p → place_of name (ids_of d.nodes) ≡ Some p → after d edit ≡ record d { nodes = changed_at p f d.nodes }
      → ((n : Node) → (f n).id ≡ n.id) → ((n : Node) → (f n).parent ≡ n.parent) → ((n : Node) → (f n).kind ≡ n.kind) → ((n : Node) → (f n).text ≡ n.text)
      → KeepsBoxes d (after d edit) ss ts id ⊎ ReachesNode d edit id
  restyled-anchor p f subject named is same_id same_parent same_kind same_text =
      let doc = edits.document in
      let here : Styled d ss = record { document = doc; has = edits.before } in
      let left : Styled (after d edit) ts = record { document = edits_leave_documents d edit doc edits.puts edits.accepted; has = edits.after } in
      let elsewhere : Styled (record d { nodes = changed_at p f d.nodes }) ts = subst (λ (x : Document). Styled x ts) is left in
      let then_there : HasAbsoluteBox (record d { nodes = changed_at p f d.nodes }) ts name = subst (λ (x : Document). HasAbsoluteBox x ts name) is later in
      let has : p < length d.nodes = (let w = place_within name (ids_of d.nodes) p named in omega (arith, w, length-ids d.nodes)) in
      let a : Some before.place ≡ Some p = sym before.named ∙ named in
      let at : before.place ≡ p = cc in
      let b : Some then_there.place ≡ Some p = sym then_there.named ∙ (ap (place_of name) (ids-stay d edit p f doc subject same_id same_parent) ∙ named) in
      let at_too : then_there.place ≡ p = cc in
      let there : box_at d.nodes ss p ≡ Some before.box = subst (λ (k : ℕ). box_at d.nodes ss k ≡ Some before.box) at before.there in
      let there_too : box_at (changed_at p f d.nodes) ts p ≡ Some then_there.box = subst (λ (k : ℕ). box_at (changed_at p f d.nodes) ts k ≡ Some then_there.box) at_too then_there.there in
      subst (λ (x : Document). KeepsBoxes d x ss ts id ⊎ ReachesNode d edit id) (sym is)
      (anchored d edit p f doc subject has same_id same_parent same_kind same_text ss ts here elsewhere before.box then_there.box there there_too before.absolute then_there.absolute id
      (subst (λ (x : Document). IsContext d ss id ⊎ IsContext x ts id) is context))

pub anchors_keep_contexts_around : AnchorsKeepContextsAround
anchors_keep_contexts_around d (SetStyle node decl) ss ts name id edits is before later context =
    let n = named-by-style d node.0 edits.accepted in
    restyled-anchor d (SetStyle node decl) ss ts edits name id before later context n.0 (with_style decl) n.1 (ap (λ (i : ℕ). place_of i (ids_of d.nodes)) (sym is) ∙ n.1)
    (restyled d node.0 (with_style decl) n.0 n.1) (λ x. refl) (λ x. refl) (λ x. refl) (λ x. refl)
anchors_keep_contexts_around d (ClearStyle node property) ss ts name id edits is before later context =
    let n = named-by-style d node.0 edits.accepted in
    restyled-anchor d (ClearStyle node property) ss ts edits name id before later context n.0 (without_style property) n.1 (ap (λ (i : ℕ). place_of i (ids_of d.nodes)) (sym is) ∙ n.1)
    (restyled d node.0 (without_style property) n.0 n.1) (λ x. refl) (λ x. refl) (λ x. refl) (λ x. refl)
anchors_keep_contexts_around d (SetText node text) ss ts name id edits is before later context = absurd is
anchors_keep_contexts_around d (Insert above index new) ss ts name id edits is before later context = absurd is
anchors_keep_contexts_around d (Remove node) ss ts name id edits is before later context = absurd is
anchors_keep_contexts_around d (Bad bad) ss ts name id edits is before later context = absurd is
