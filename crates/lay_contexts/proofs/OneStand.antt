-- Each context but the first stands once, in the nearest context above it.
use Rattle.std.proofs.Common.{◌≡◌, ℕ, suc, ◌+◌, ◌<◌, ◌≤◌, Bool, true, false, ◌⊎◌, List, [], ◌∷◌, length, refl, ap, sym, subst, ◌∙◌, arith, inl, inr, IsTrue, Option, None, Some, option_map, slice_get, slice_index}
use Rattle.std.proofs.lemmas.Bool.{cases_lt, cases_Bool, both_ways}
use Rattle.std.proofs.lemmas.Option.{slice_get_within}
use Rattle.lay_style.specs.declared.style.Style.{Style}
use Rattle.lay_style.specs.ComputedStyle.{style_at}
use Rattle.lay_doc.specs.declared.node.Node.{Node}
use Rattle.lay_doc.specs.Document.{ids_of, is_element_at, parents_of}
use Rattle.lay_doc.specs.Tree.{IsTree}
use Rattle.lay_doc.proofs.NodeColumns.{length-parents}
use Rattle.lay_boxgen.specs.Boxes.{tree, trees_of}
use Rattle.lay_boxgen.specs.Contexts.{GeneratesBox, IsContextAt, box_at, box_of_node, has_box, is_marked, root, below}
use Rattle.lay_boxgen.specs.NodeBoxes.{facts_with, form_of}
use Rattle.lay_boxgen.specs.NodeTrees.{as_child, box_with, children_of, tree_at}
use Rattle.lay_boxgen.specs.declared.facts.Facts.{Facts}
use Rattle.lay_boxgen.specs.declared.facts.Form.{Form}
use Rattle.lay_contexts.specs.ContextTree.{ContextsStandOnce, IsAround, StandsIn, StandsOnce, boxes_of_place, further, parent, parent_of}
use Rattle.lay_contexts.proofs.Apart.{Below, IsBelow, child, cut-below, deeper, inner-below}
use Rattle.lay_contexts.proofs.Counted.{IsThere, count, find, least, most, named-once, two}
use Rattle.lay_contexts.proofs.Members.{forest, node-at, tree-is}
use Rattle.lay_contexts.proofs.Reached.{generated-inside, reached}

pub marked-true : (b : Bool) → IsTrue b → b ≡ true
marked-true true t = refl
marked-true false t = absurd cc

true-marked : (b : Bool) → b ≡ true → IsTrue b
true-marked b e = e

-- the root's box is that of a context
root-by : (n : Node) (s : Style) (o : Option Form) → IsTrue (has_box (option_map (facts_with 0 n s) o)) → is_marked (option_map (facts_with 0 n s) o) ≡ true
root-by n s None h = absurd cc
root-by n s (Some x) h = refl

root-of : (o : Option Node) (s : Style) → IsTrue (has_box (box_of_node 0 o s)) → is_marked (box_of_node 0 o s) ≡ true
root-of None s h = absurd cc
root-of (Some n) s h = root-by n s (form_of true n.kind n.text s) h

within-by : (nodes : List Node) (k : ℕ) (s : Style) (o : Option Node) → slice_get nodes k ≡ o → is_marked (box_of_node k o s) ≡ true → k < length nodes
within-by nodes k s None e h = cc
within-by nodes k s (Some n) e h = slice_get_within nodes k n e

module _ (nodes : List Node) (styles : List Style) where
  pub within : (k : ℕ) → is_marked (box_at nodes styles k) ≡ true → k < length nodes
  within k h = within-by nodes k (style_at styles k) (slice_get nodes k) refl h

  record HasAround (k : ℕ) : Type 0 where
    place : ℕ
    around : IsAround nodes styles k place
    context : IsContextAt nodes styles place

  -- the root isn't without a mark
  behind-root : (k : ℕ) → GeneratesBox nodes styles k → is_marked (box_at nodes styles k) ≡ false → 0 < k
  behind-root k (root h) e = absurd (both_ways (is_marked (box_at nodes styles 0)) e (root-of (slice_get nodes 0) (style_at styles 0) h))
  behind-root k (below j positive kept made) e = positive

  up : (k : ℕ) → GeneratesBox nodes styles k → 0 < k → HasAround k
  up k (root h) positive = absurd (omega (arith, positive))
  up k (below j above kept made) positive = by (cases_Bool (is_marked (box_at nodes styles (parent_of nodes j)))) (up (parent_of nodes j) made)
    where
      by : (is_marked (box_at nodes styles (parent_of nodes j)) ≡ true) ⊎ (is_marked (box_at nodes styles (parent_of nodes j)) ≡ false)
          → (0 < parent_of nodes j → HasAround (parent_of nodes j)) → HasAround j
      by (inl e) rest = record {
        place = parent_of nodes j;
        around = parent j above e;
        context = record { establishes = true-marked (is_marked (box_at nodes styles (parent_of nodes j))) e; generates = made };
      }
      by (inr e) rest =
          let h = rest (behind-root (parent_of nodes j) made e) in
          record { place = h.place; around = further j h.place above e h.around; context = h.context }

  pub one-around : (k a b : ℕ) → IsAround nodes styles k a → IsAround nodes styles k b → a ≡ b
  one-around k a b (parent j p e) (parent i q f) = refl
  one-around k a b (parent j p e) (further i d q f h) = absurd (both_ways (is_marked (box_at nodes styles (parent_of nodes j))) f e)
  one-around k a b (further j c p e g) (parent i q f) = absurd (both_ways (is_marked (box_at nodes styles (parent_of nodes j))) e f)
  one-around k a b (further j c p e g) (further i d q f h) = one-around (parent_of nodes j) c d g h

  below-around : (a k : ℕ) → IsBelow nodes styles a k → is_marked (box_at nodes styles a) ≡ true → IsAround nodes styles k a
  below-around a k (child j positive) e = parent j positive e
  below-around a k (deeper b j positive between h) e = further j b positive between (below-around b (parent_of nodes j) h e)

  module _ (is_tree : IsTree (parents_of nodes)) (same : length styles ≡ length nodes)
      (elements : (k : ℕ) → 0 < k → k < length nodes → is_element_at nodes (parent_of nodes k) ≡ true)
      (ids : (j k : ℕ) → j < k → k < length nodes → slice_index (ids_of nodes) j ≡ slice_index (ids_of nodes) k → ⊥) where
    around-element : (k a : ℕ) → IsAround nodes styles k a → k < length nodes → is_element_at nodes a ≡ true
    around-element k a (parent j positive e) lt = elements j positive lt
    around-element k a (further j b positive e above) lt =
        let before = is_tree.before j positive (let l = length-parents nodes in omega (arith, lt, l)) in
        around-element (parent_of nodes j) b above (omega (arith, before, lt))

    same-place : (j k : ℕ) → j < length nodes → k < length nodes → slice_index (ids_of nodes) j ≡ slice_index (ids_of nodes) k → j ≡ k
    same-place j k lj lk e = elim (cases_lt j k) [
      | inl low ↦ absurd (ids j k low lk e)
      | inr high ↦ elim (cases_lt k j) [
        | inl over ↦ absurd (ids k j over lj (sym e))
        | inr under ↦ omega (arith, high, under)
      ]
    ]

    length-ids : (ns : List Node) → length (ids_of ns) ≡ length ns
    length-ids [] = refl
    length-ids (n ∷ ns) = ap suc (length-ids ns)

    has-box : (o : Option Facts) → IsTrue (is_marked o) → (f : Facts) × (o ≡ Some f)
    has-box None h = absurd cc
    has-box (Some f) h = (f, refl)

    -- some box of the context around is this one's
    some : (k a : ℕ) → 0 < k → IsContextAt nodes styles k → IsAround nodes styles k a → IsContextAt nodes styles a → 1 ≤ count (slice_index (ids_of nodes) k) (boxes_of_place nodes styles a)
    some k a positive context around outer =
        let id : ℕ = slice_index (ids_of nodes) k in
        let marked = marked-true (is_marked (box_at nodes styles k)) context.establishes in
        let lt = within k marked in
        let la = within a (marked-true (is_marked (box_at nodes styles a)) outer.establishes) in
        let inside = reached nodes styles is_tree same elements id k a positive lt refl marked context.generates around in
        let n = node-at nodes styles is_tree same a la in
        let b = has-box (box_at nodes styles a) outer.establishes in
        let cs = children_of as_child a (forest nodes styles is_tree same (a + 1)) in
        let mine : tree_at nodes styles a ≡ Some (tree b.0 (trees_of cs)) = tree-is nodes styles is_tree same a n ∙ ap (λ o. box_with o cs) (sym n.box ∙ b.1) in
        let held = generated-inside nodes styles is_tree same elements id a la (around-element k a around lt) b.0 (trees_of cs) mine inside in
        let l = least id nodes styles a in
        omega (arith, held, l)

    -- and no other
    one : (k a : ℕ) → IsContextAt nodes styles a → count (slice_index (ids_of nodes) k) (boxes_of_place nodes styles a) ≤ 1
    one k a outer =
        let id : ℕ = slice_index (ids_of nodes) k in
        let la = within a (marked-true (is_marked (box_at nodes styles a)) outer.establishes) in
        let m = most id nodes styles a (Below nodes styles a) (λ f p inner. (let b = p inner in b.no_inline)) (cut-below nodes styles is_tree same a la) in
        let o = named-once id (ids_of nodes) (λ i j lt in_ids. ids i j lt (let l = length-ids nodes in omega (arith, in_ids, l))) in
        omega (arith, m, o)

    nearest : (k a i : ℕ) → k < length nodes → IsContextAt nodes styles a → StandsIn nodes styles k a i → IsAround nodes styles k a
    nearest k a i lt outer stands =
        let marked = marked-true (is_marked (box_at nodes styles a)) outer.establishes in
        let h = inner-below nodes styles is_tree same a (within a marked) i stands.inner in
        let x : h.0 ≡ k = same-place h.0 k h.1 lt (sym h.2 ∙ stands.node) in
        below-around a k (subst (IsBelow nodes styles a) x h.3) marked

    pub stands-once : (k : ℕ) → 0 < k → IsContextAt nodes styles k → StandsOnce nodes styles k
    stands-once k positive context = record {
      around = h.place;
      at = found.0;
      nearest = h.around;
      context = h.context;
      stands = record { within = found.1; inner = found.2.0; node = found.2.1 };
      only = only;
    }
      where
        lt : k < length nodes
        lt = within k (marked-true (is_marked (box_at nodes styles k)) context.establishes)

        h : HasAround k
        h = up k context.generates positive

        found : (i : ℕ) × (i < length (boxes_of_place nodes styles h.place)) × IsThere (slice_index (ids_of nodes) k) (boxes_of_place nodes styles h.place) i
        found = find (slice_index (ids_of nodes) k) (boxes_of_place nodes styles h.place) (some k h.place positive context h.around h.context)

        alone : (i j : ℕ) → IsThere (slice_index (ids_of nodes) k) (boxes_of_place nodes styles h.place) i → IsThere (slice_index (ids_of nodes) k) (boxes_of_place nodes styles h.place) j → i ≡ j
        alone i j p q =
            let o = one k h.place h.context in
            elim (cases_lt i j) [
              | inl low ↦ absurd (let t = two (slice_index (ids_of nodes) k) (boxes_of_place nodes styles h.place) i j low p q in omega (arith, t, o))
              | inr high ↦ elim (cases_lt j i) [
                | inl over ↦ absurd (let t = two (slice_index (ids_of nodes) k) (boxes_of_place nodes styles h.place) j i over q p in omega (arith, t, o))
                | inr under ↦ omega (arith, high, under)
              ]
            ]

        only : (a i : ℕ) → IsContextAt nodes styles a → StandsIn nodes styles k a i → (a ≡ h.place) × (i ≡ found.0)
        only a i outer stands =
            let e : a ≡ h.place = one-around k a h.place (nearest k a i lt outer stands) h.around in
            let moved = subst (λ (b : ℕ). StandsIn nodes styles k b i) e stands in
            (e, alone i found.0 (moved.inner, moved.node) found.2)

pub contexts_stand_once : ContextsStandOnce
contexts_stand_once d styles k doc same positive context =
    stands-once d.nodes styles doc.tree same doc.parent_elements doc.ids k positive context
