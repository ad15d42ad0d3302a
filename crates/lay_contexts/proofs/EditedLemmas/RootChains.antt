-- What the own box of a formatting context or of one around it may be is said by nodes.
use Rattle.std.proofs.Common.{◌≡◌, ◌⊎◌, inl, inr, ◌↔◌, ℕ, zero, suc, ◌<◌, ◌≤◌, Bool, true, false, ◌||◌, List, [], ◌∷◌, length, get_or, refl, ap, sym, subst, ◌∙◌, arith, if◌then◌else◌, Option, None, Some, slice_get, slice_index}
use Rattle.std.proofs.lemmas.Bool.{cases_lt, or_left, or_right, or_cases, and_parts, both_ways}
use Rattle.std.proofs.lemmas.List.{get_or-map}
use Rattle.lay_style.specs.declared.style.Style.{Style}
use Rattle.lay_style.specs.ComputedStyle.{style_at}
use Rattle.lay_doc.specs.Document.{Document, IsDocument, ids_of}
use Rattle.lay_boxgen.specs.Boxes.{Tree, Trees, tree, trees_of}
use Rattle.lay_boxgen.specs.Forms.{is_anchor}
use Rattle.lay_boxgen.specs.declared.facts.Facts.{Facts}
use Rattle.lay_box_tree.specs.BoxColumns.{box_at as listed_at, box_ids, box_inner, no_box}
use Rattle.lay_box_tree.specs.Containers.{box_parent}
use Rattle.lay_box_tree.specs.ContextBoxes.{AreContextBoxes}
use Rattle.lay_box_tree.specs.declared.box_tree.BoxKind.{BoxKind}
use Rattle.lay_box_tree.specs.declared.box_tree.BoxNode.{BoxNode}
use Rattle.lay_box_tree.specs.declared.box_tree.Flow.{Flow}
use Rattle.lay_box_tree.specs.declared.box_tree.Flow.TheVariants.{InFlow}
use Rattle.lay_box_tree.specs.Kinds.{is_wrapper}
use Rattle.lay_contexts.proofs.Cited.{context_is_one_box}
use Rattle.lay_box_tree.proofs.BoxForests.{length-parents}
use Rattle.lay_boxgen.specs.Contexts.{IsContextAt, box_at, is_marked}
use Rattle.lay_boxgen.specs.Laws.{inner_boxes}
use Rattle.lay_boxgen.specs.Listing.{box_node, box_style, kind_of, listed_part, style_of, text_at}
use Rattle.lay_boxgen.specs.NodeTrees.{as_own, box_with, tree_at}
use Rattle.lay_boxgen.specs.Parts.{nothing, part, put_list}
use Rattle.lay_contexts.specs.ContextList.{AreContextsOf}
use Rattle.lay_contexts.specs.ContextTree.{IsAround, StandsIn, boxes_of_place}
use Rattle.lay_contexts.specs.Contexts.{AreContexts, Context, boxes_in, context_at}
use Rattle.lay_contexts.specs.DocumentContexts.{spot_at}
use Rattle.lay_contexts.specs.FormattingContextList.{AreFormattingContextsOf, formatting_context_of, homes_in, number_of, spot_of}
use Rattle.lay_contexts.specs.FormattingContexts.{FormattingContext, boxes_in as boxes_of, formatting_context_at}
use Rattle.lay_contexts.specs.Homes.{is_anonymous_root, is_root}
use Rattle.lay_contexts.specs.NodeTreeLaws.{child_trees, children_places}
use Rattle.lay_contexts.specs.declared.context_spot.ContextSpot.{ContextSpot}
use Rattle.lay_contexts.specs.declared.spot.Spot.{Spot}
use Rattle.lay_contexts.proofs.ChildTrees.{in-order}
use Rattle.lay_contexts.proofs.ContextFacts.{home_root, home_there}
use Rattle.lay_contexts.proofs.ContextNumbers.{are_contexts}
use Rattle.lay_contexts.proofs.FlowAround.{anonymous_in_flow}
use Rattle.lay_contexts.proofs.NearestRoots.{home_before}
use Rattle.lay_contexts.proofs.NodeFacts.{of_node}
use Rattle.lay_contexts.proofs.OneStand.{contexts_stand_once, marked-true, one-around, within}
use Rattle.lay_contexts.proofs.RootNumbers.{number_lt, roots_lt}
use Rattle.lay_contexts.proofs.SpotOrder.{boxes_there}
use Rattle.lay_contexts.specs.Edited.AnonymousTables.{IsInStrayPart, IsKnownInside, ListInside, between, here}
use Rattle.lay_contexts.specs.Edited.Shrinking.{IsWithin, IsWithinOutward, TakesAnonymousTables, WithinOutwardByNodes, around, first, outward, own, table}
use Rattle.lay_contexts.proofs.EditedLemmas.StrayNodes.{anonymous_tables_stand_by_nodes}
use Rattle.lay_contexts.proofs.EditedLemmas.OwnList.{around-before}
use Rattle.lay_contexts.proofs.EditedLemmas.PartLeaves.{place-of}
use Rattle.lay_contexts.proofs.EditedLemmas.TableChains.{anonymous-by, chain, none-at-own, root-flag, root-kinds, table-kind}
use Rattle.lay_contexts.proofs.EditedLemmas.TableMarks.{Marked, is_table_box, marked-part}

abbrev pub Is : (Flow → BoxKind → Style → Bool) → BoxNode → Bool
Is S b = S b.flow b.kind b.style

-- a formatting context's own box is such a one, or it is so outward
pub cases-of : (S : Flow → BoxKind → Style → Bool) (all : List FormattingContext) (j : ℕ) → IsWithinOutward S all j
    → (Is S (listed_at (boxes_of all j) 0) ≡ true) ⊎ ((0 < j) × IsWithinOutward S all (formatting_context_at all j).outer)
cases-of S all _ (first j e) = inl e
cases-of S all _ (outward j positive w) = inr (positive, w)

no-contexts : (contexts : List Context) → length contexts ≤ 0 → (context_at contexts 0).place ≡ 0
no-contexts [] e = refl
no-contexts (c ∷ cs) e = absurd (omega (arith, e))

marked-any : (d : Document) (styles : List Style) (ts : List Tree) → 0 < length (listed_part d.nodes styles ts) → ListInside (IsKnownInside d.nodes styles) false ts
    → (marks : List Bool) × Marked d.nodes styles (listed_part d.nodes styles ts) marks
marked-any d styles [] some h = absurd (omega (arith, some))
marked-any d styles (tree f us ∷ ts) some h = (_, marked-part d.nodes styles f us ts h)

pub spot-of-root : (contexts : List Context) (i r : ℕ) → spot_of contexts i (suc r) ≡ record { context = i; place = suc r }
spot-of-root contexts zero r = refl
spot-of-root contexts (suc i) r = refl

-- The own box of a context is that of its element.
module _ (d : Document) (styles : List Style) (doc : IsDocument d) (same : length styles ≡ length d.nodes) (a : ℕ) (context : IsContextAt d.nodes styles a) (f : Facts) (e : box_at d.nodes styles a ≡ Some f) where
  own-box : listed_at (boxes_of_place d.nodes styles a) 0 ≡ box_node d.nodes styles (as_own f) 0 (as_own f)
  own-box =
      let marked = marked-true (is_marked (box_at d.nodes styles a)) context.establishes in
      let cs : List Tree = child_trees d.nodes styles (children_places d.nodes a) in
      let mine : tree_at d.nodes styles a ≡ Some (tree f (trees_of cs)) = in-order d.nodes styles doc.tree same a (within d.nodes styles a marked) ∙ ap (λ (o : Option Facts). box_with o cs) e in
      let inner : f.inner ≡ true = sym (ap is_marked e) ∙ marked in
      let one = context_is_one_box d.nodes styles a f (trees_of cs) mine ((of_node d.nodes styles a f e).no_inline inner) in
      ap (λ (ts : List Tree). listed_at (listed_part d.nodes styles (put_list nothing ts)) 0) one ∙ first-box (inner_boxes d.nodes styles f)
    where
      first-box : (us : Trees) → listed_at (listed_part d.nodes styles (put_list nothing (tree (as_own f) us ∷ []))) 0 ≡ box_node d.nodes styles (as_own f) 0 (as_own f)
      first-box us = refl

  own-element : (listed_at (boxes_of_place d.nodes styles a) 0).anonymous ≡ false
  own-element = ap (λ (b : BoxNode). b.anonymous) own-box ∙ (of_node d.nodes styles a f e).plain

  own-place : f.place ≡ a
  own-place = place-of a (slice_get d.nodes a) (style_at styles a) f e

  own-style : (box_node d.nodes styles (as_own f) 0 (as_own f)).style ≡ style_at styles a
  own-style =
      one-of (is_anchor f.form) (as_own f)
      ∙ (ap (λ (b : Bool). box_style b (style_at styles f.place)) (of_node d.nodes styles a f e).plain ∙ ap (style_at styles) own-place)
    where
      one-of : (c : Bool) (g : Facts) → style_of styles (if c then g else g) ≡ style_of styles g
      one-of true g = refl
      one-of false g = refl

  own-is : (S : Flow → BoxKind → Style → Bool) → Is S (listed_at (boxes_of_place d.nodes styles a) 0) ≡ S f.flow (kind_of (text_at d.nodes a) f.form) (style_at styles a)
  own-is S =
      ap (λ (b : BoxNode). S b.flow b.kind b.style) own-box
      ∙ (ap (λ (k : ℕ). S f.flow (kind_of (text_at d.nodes k) f.form) (box_node d.nodes styles (as_own f) 0 (as_own f)).style) own-place
      ∙ ap (S f.flow (kind_of (text_at d.nodes a) f.form)) own-style)

module _ (S : Flow → BoxKind → Style → Bool) (takes : TakesAnonymousTables S) (d : Document) (styles : List Style) (contexts : List Context) (all : List FormattingContext)
    (doc : IsDocument d) (same : length styles ≡ length d.nodes) (of_d : AreContextsOf d.nodes styles contexts) (of : AreFormattingContextsOf contexts all) where
  are : AreContexts contexts
  are = are_contexts d styles contexts doc same of_d

  abbrev B : ℕ → List BoxNode
  B i = boxes_in contexts i

  abbrev W : ℕ → Type 0
  W j = IsWithinOutward S all j

  abbrev home : ℕ → ℕ → ℕ
  home i k = slice_index (homes_in of.homes i) k

  abbrev place : ℕ → ℕ
  place i = (context_at contexts i).place

  -- What is known of a context.
  counted : length contexts ≡ length of_d.spots
  counted = of_d.numbered.count

  place-is : (i : ℕ) → i < length contexts → place i ≡ (spot_at of_d.spots i).place
  place-is i lt = ap (λ (s : ContextSpot). s.place) (of_d.numbered.each i lt).spot

  outer-is : (i : ℕ) → i < length contexts → (context_at contexts i).outer ≡ (spot_at of_d.spots i).around
  outer-is i lt = ap (λ (s : ContextSpot). s.around) (of_d.numbered.each i lt).spot

  outer_box-is : (i : ℕ) → i < length contexts → (context_at contexts i).outer_box ≡ (spot_at of_d.spots i).at
  outer_box-is i lt = ap (λ (s : ContextSpot). s.at) (of_d.numbered.each i lt).spot

  context-is : (i : ℕ) → i < length contexts → IsContextAt d.nodes styles (place i)
  context-is i lt = subst (IsContextAt d.nodes styles) (sym (place-is i lt)) (of_d.are.are i (omega (arith, lt, counted)))

  boxes-are : (i : ℕ) → i < length contexts → B i ≡ boxes_of_place d.nodes styles (place i)
  boxes-are i lt =
      (of_d.numbered.each i lt).boxes_are
      ∙ (boxes_there d styles doc same of_d.spots i (omega (arith, lt, counted)) ∙ ap (boxes_of_place d.nodes styles) (sym (place-is i lt)))

  facts-of : (i : ℕ) → i < length contexts → (f : Facts) × (box_at d.nodes styles (place i) ≡ Some f)
  facts-of i lt = by (box_at d.nodes styles (place i)) refl (marked-true (is_marked (box_at d.nodes styles (place i))) (context-is i lt).establishes)
    where
      by : (o : Option Facts) → box_at d.nodes styles (place i) ≡ o → is_marked o ≡ true → (f : Facts) × (box_at d.nodes styles (place i) ≡ Some f)
      by None e m = absurd cc
      by (Some f) e m = (f, e)

  marks-of : (i : ℕ) → i < length contexts → (marks : List Bool) × Marked d.nodes styles (B i) marks
  marks-of i lt =
      let some = (are.boxes i lt).some in
      let h = marked-any d styles (part d.nodes styles (place i)) (subst (λ (bs : List BoxNode). 0 < length bs) (boxes-are i lt) some)
      (anonymous_tables_stand_by_nodes d styles (place i) doc same (context-is i lt)) in
      (h.0, subst (λ (bs : List BoxNode). Marked d.nodes styles bs h.0) (sym (boxes-are i lt)) h.1)

  element-is : (i : ℕ) → i < length contexts → (listed_at (B i) 0).anonymous ≡ false
  element-is i lt =
      let f = facts-of i lt in
      ap (λ (bs : List BoxNode). (listed_at bs 0).anonymous) (boxes-are i lt) ∙ own-element d styles doc same (place i) (context-is i lt) f.0 f.1

  own-says : (i : ℕ) (lt : i < length contexts) → Is S (listed_at (B i) 0) ≡ S (facts-of i lt).0.flow (kind_of (text_at d.nodes (place i)) (facts-of i lt).0.form) (style_at styles (place i))
  own-says i lt =
      let f = facts-of i lt in
      ap (λ (bs : List BoxNode). Is S (listed_at bs 0)) (boxes-are i lt) ∙ own-is d styles doc same (place i) (context-is i lt) f.0 f.1 S

  -- Formatting contexts by their roots.
  value : (i r : ℕ) → i < length contexts → r < length (B i) → is_root (B i) r ≡ true → formatting_context_at all (number_of contexts i r) ≡ formatting_context_of contexts of.homes i r
  value i r lt inside root = of.each i r lt inside root

  first-is : (i r : ℕ) → i < length contexts → r < length (B i) → is_root (B i) r ≡ true → Is S (listed_at (boxes_of all (number_of contexts i r)) 0) ≡ Is S (listed_at (B i) r)
  first-is i r lt inside root = ap (λ (c : FormattingContext). Is S (listed_at c.boxes 0)) (value i r lt inside root)

  root-outer : (i r : ℕ) → i < length contexts → suc r < length (B i) → is_root (B i) (suc r) ≡ true → (formatting_context_at all (number_of contexts i (suc r))).outer ≡ number_of contexts i (home i (suc r))
  root-outer i r lt inside root =
      ap (λ (c : FormattingContext). c.outer) (value i (suc r) lt inside root)
      ∙ ap (λ (s : Spot). number_of contexts s.context (slice_index (homes_in of.homes s.context) s.place)) (spot-of-root contexts i r)

  context-outer : (i : ℕ) → suc i < length contexts → (formatting_context_at all (number_of contexts (suc i) 0)).outer
      ≡ number_of contexts (context_at contexts (suc i)).outer (home (context_at contexts (suc i)).outer (context_at contexts (suc i)).outer_box)
  context-outer i lt = ap (λ (c : FormattingContext). c.outer) (value (suc i) 0 lt (are.boxes (suc i) lt).some refl)

  root-some : (i r : ℕ) → 0 < r → 0 < number_of contexts i r
  root-some i r positive = let n = roots_lt (B i) 0 r refl positive in omega (arith, n)

  context-some : (i : ℕ) → suc i < length contexts → 0 < number_of contexts (suc i) 0
  context-some i lt =
      let n = number_lt contexts 0 (suc i) 0 (omega arith) (are.boxes 0 (omega (arith, lt))).some refl in
      omega (arith, n)

  -- What is said of the roots of a context.
  module _ (i : ℕ) (lt : i < length contexts) (marks : List Bool) (known : Marked d.nodes styles (B i) marks) where
    boxes_ok : AreContextBoxes (B i)
    boxes_ok = are.boxes i lt

    low : (k : ℕ) → 0 < k → k < length (B i) → box_parent (B i) k < k
    low k positive inside = boxes_ok.tree.before k positive (omega (arith, inside, length-parents (B i)))

    abbrev m : ℕ → Bool
    m k = get_or marks k false

    abbrev M : ℕ → Bool
    M k = m k || is_table_box (listed_at (B i) k)

    to-home : (k : ℕ) → 0 < k → k < length (B i) → m k ≡ M (home i k)
    to-home k positive inside =
        chain d.nodes styles (B i) marks known boxes_ok.some (element-is i lt) low k (home i k) ((of.homes_are.each i lt).each k inside) positive inside

    no-own : (k : ℕ) → k ≡ 0 → M k ≡ false
    no-own k z = none-at-own d.nodes styles (B i) marks known boxes_ok.some (element-is i lt) low k z

    flow-in : (k : ℕ) → k < length (B i) → (listed_at (B i) k).anonymous ≡ true → (listed_at (B i) k).flow ≡ InFlow
    flow-in k inside e =
        sym (get_or-map (λ (b : BoxNode). b.flow) (B i) k no_box InFlow inside)
        ∙ anonymous_in_flow d styles contexts i k doc same of_d lt (get_or-map (λ (b : BoxNode). b.anonymous) (B i) k no_box false inside ∙ e)

    -- an anonymous root that is such a one is a table
    root-is : (r : ℕ) → 0 < r → r < length (B i) → is_root (B i) r ≡ true → Is S (listed_at (B i) r) ≡ true → is_table_box (listed_at (B i) r) ≡ true
    root-is r positive inside root e =
        let b = listed_at (B i) r in
        let flag : is_anonymous_root b ≡ true = sym (root-flag (B i) r positive inside) ∙ root in
        let anonymous = anonymous-by b.anonymous _ _ flag in
        root-kinds S takes b.anonymous b.inner b.kind b.style flag (ap (λ (x : Flow). S x b.kind b.style) (sym (flow-in r inside anonymous)) ∙ e)

    table-is : (r : ℕ) → r < length (B i) → is_table_box (listed_at (B i) r) ≡ true → Is S (listed_at (B i) r) ≡ true
    table-is r inside e =
        let b = listed_at (B i) r in
        ap (λ (x : Flow). S x b.kind b.style) (flow-in r inside (and_parts b.anonymous (is_wrapper b.kind) e).0)
        ∙ table-kind S takes b.anonymous b.kind b.style e (known.automatic r inside e)

    abbrev Said : ℕ → Type 0
    Said r = (M r ≡ true) ⊎ W (number_of contexts i 0)

    said : (turns r : ℕ) → r < turns → r < length (B i) → is_root (B i) r ≡ true → W (number_of contexts i r) → Said r
    said zero r few inside root w = absurd (omega (arith, few))
    said (suc turns) zero few inside root w = inr w
    said (suc turns) (suc r) few inside root w = elim (cases-of S all (number_of contexts i (suc r)) w) [
      | inl e ↦ (let t = root-is (suc r) (omega arith) inside root (sym (first-is i (suc r) lt inside root) ∙ e) in
          inl (or_right (m (suc r)) (is_table_box (listed_at (B i) (suc r))) t))
      | inr out ↦ (let h : ℕ = home i (suc r) in
          let there = home_there contexts of.homes are of.homes_are i (suc r) lt inside in
          let root_there = home_root contexts of.homes are of.homes_are i (suc r) lt inside in
          let before : h < suc r = home_before (B i) boxes_ok.tree (suc r) h inside ((of.homes_are.each i lt).each (suc r) inside) (omega arith) in
          elim (said turns h (omega (arith, before, few)) there root_there (subst W (root-outer i r lt inside root) out.1)) [
            | inl p ↦ inl (or_left (m (suc r)) (is_table_box (listed_at (B i) (suc r))) (to-home (suc r) (omega arith) inside ∙ p))
            | inr w ↦ inr w
          ])
    ]

    -- by the root around
    back-by : (r : ℕ) → suc r < length (B i) → is_root (B i) (suc r) ≡ true → (Said (home i (suc r)) → W (number_of contexts i (home i (suc r)))) → Said (suc r) → W (number_of contexts i (suc r))
    back-by r inside root rest q = by q
      where
        out : Said (home i (suc r)) → W (number_of contexts i (suc r))
        out p = outward (number_of contexts i (suc r)) (root-some i (suc r) (omega arith)) (subst W (sym (root-outer i r lt inside root)) (rest p))

        by : Said (suc r) → W (number_of contexts i (suc r))
        by (inl p) = elim (or_cases (m (suc r)) (is_table_box (listed_at (B i) (suc r))) p) [
          | inl mark ↦ out (inl (sym (to-home (suc r) (omega arith) inside) ∙ mark))
          | inr t ↦ first (number_of contexts i (suc r)) (first-is i (suc r) lt inside root ∙ table-is (suc r) inside t)
        ]
        by (inr w) = out (inr w)

    back-own : Said 0 → W (number_of contexts i 0)
    back-own (inl p) = absurd (both_ways (M 0) (no-own 0 refl) p)
    back-own (inr w) = w

    back : (turns r : ℕ) → r < turns → r < length (B i) → is_root (B i) r ≡ true → Said r → W (number_of contexts i r)
    back zero r few inside root q = absurd (omega (arith, few))
    back (suc turns) zero few inside root q = back-own q
    back (suc turns) (suc r) few inside root q =
        let there = home_there contexts of.homes are of.homes_are i (suc r) lt inside in
        let root_there = home_root contexts of.homes are of.homes_are i (suc r) lt inside in
        let before : home i (suc r) < suc r = home_before (B i) boxes_ok.tree (suc r) (home i (suc r)) inside ((of.homes_are.each i lt).each (suc r) inside) (omega arith) in
        back-by r inside root (λ p. back turns (home i (suc r)) (omega (arith, before, few)) there root_there p) q

  -- Of a context and the one around it.
  module _ (i : ℕ) (lt : suc i < length contexts) where
    abbrev o : ℕ
    o = (context_at contexts (suc i)).outer

    abbrev k : ℕ
    k = (context_at contexts (suc i)).outer_box

    before : o < suc i
    before = are.outer (suc i) (omega arith) lt

    o-in : o < length contexts
    o-in = omega (arith, before, lt)

    k-in : k < length (B o)
    k-in = are.outer_box (suc i) (omega arith) lt

    positive : 0 < place (suc i)
    positive = let r = of_d.are.rising 0 (suc i) (omega arith) (omega (arith, lt, counted)) in let p = place-is (suc i) lt in omega (arith, r, p)

    stands : StandsIn d.nodes styles (place (suc i)) (place o) k
    stands =
        let st = of_d.are.stands (suc i) (omega arith) (omega (arith, lt, counted)) in
        let around_is : (spot_at of_d.spots (spot_at of_d.spots (suc i)).around).place ≡ place o =
        ap (λ (x : ℕ). (spot_at of_d.spots x).place) (sym (outer-is (suc i) lt)) ∙ sym (place-is o o-in) in
        subst (λ (x : ℕ). StandsIn d.nodes styles x (place o) k) (sym (place-is (suc i) lt))
        (subst (λ (x : ℕ). StandsIn d.nodes styles (spot_at of_d.spots (suc i)).place x k) around_is
        (subst (λ (x : ℕ). StandsIn d.nodes styles (spot_at of_d.spots (suc i)).place (spot_at of_d.spots (spot_at of_d.spots (suc i)).around).place x) (sym (outer_box-is (suc i) lt)) st))

    nearest : IsAround d.nodes styles (place (suc i)) (place o)
    nearest =
        let once = contexts_stand_once d styles (place (suc i)) doc same positive (context-is (suc i) lt) in
        subst (IsAround d.nodes styles (place (suc i))) (sym (once.only (place o) k (context-is o o-in) stands).0) once.nearest

    k-inner : (listed_at (B o) k).inner ≡ true
    k-inner =
        sym (get_or-map (λ (b : BoxNode). b.inner) (B o) k no_box false k-in)
        ∙ (ap (λ (bs : List BoxNode). get_or (box_inner bs) k false) (boxes-are o o-in) ∙ stands.inner)

    k-node : (listed_at (B o) k).node.0 ≡ slice_index (ids_of d.nodes) (place (suc i))
    k-node =
        sym (get_or-map (λ (b : BoxNode). b.node.0) (B o) k no_box 0 k-in)
        ∙ (ap (λ (bs : List BoxNode). slice_index (box_ids bs) k) (boxes-are o o-in) ∙ stands.node)

    k-some : 0 < k
    k-some = elim (cases_lt 0 k) [
      | inl above ↦ above
      | inr none ↦ absurd (let z : k ≡ 0 = omega (arith, none) in
          let own_inner = (are.boxes o o-in).own in
          let a : (listed_at (B o) 0).inner ≡ true = ap (λ (j : ℕ). (listed_at (B o) j).inner) (sym z) ∙ k-inner in
          let b : (listed_at (B o) 0).inner ≡ false = sym (get_or-map (λ (b : BoxNode). b.inner) (B o) 0 no_box false (are.boxes o o-in).some) ∙ own_inner in
          both_ways (listed_at (B o) 0).inner b a)
    ]

    same-place : (x : ℕ) → x < length d.nodes → slice_index (ids_of d.nodes) x ≡ slice_index (ids_of d.nodes) (place (suc i)) → x ≡ place (suc i)
    same-place x x_in e =
        let p_in = within d.nodes styles (place (suc i)) (marked-true (is_marked (box_at d.nodes styles (place (suc i)))) (context-is (suc i) lt).establishes) in
        elim (cases_lt x (place (suc i))) [
          | inl less ↦ absurd (doc.ids x (place (suc i)) less p_in e)
          | inr high ↦ elim (cases_lt (place (suc i)) x) [
            | inl more ↦ absurd (doc.ids (place (suc i)) x more x_in (sym e))
            | inr under ↦ omega (arith, high, under)
          ]
        ]

    module _ (marks : List Bool) (known : Marked d.nodes styles (B o) marks) where
      stray-is : (get_or marks k false ≡ true) ↔ IsInStrayPart d.nodes styles (place (suc i))
      stray-is =
          let n = (known.known k k-in k-inner).1 in
          let x : n.0 ≡ place (suc i) = same-place n.0 n.1 (n.2 ∙ k-node) in
          subst (λ (y : ℕ). (get_or marks k false ≡ true) ↔ IsInStrayPart d.nodes styles y) x n.3

      h-in : home o k < length (B o)
      h-in = home_there contexts of.homes are of.homes_are o k o-in k-in

      h-root : is_root (B o) (home o k) ≡ true
      h-root = home_root contexts of.homes are of.homes_are o k o-in k-in

      -- what the formatting context around says
      into : W (number_of contexts o (home o k)) → IsInStrayPart d.nodes styles (place (suc i)) ⊎ W (number_of contexts o 0)
      into w = elim (said o o-in marks known (suc (home o k)) (home o k) (omega arith) h-in h-root w) [
        | inl p ↦ inl (stray-is.0 (to-home o o-in marks known k k-some k-in ∙ p))
        | inr v ↦ inr v
      ]

      onto : IsInStrayPart d.nodes styles (place (suc i)) ⊎ W (number_of contexts o 0) → W (number_of contexts o (home o k))
      onto q = back o o-in marks known (suc (home o k)) (home o k) (omega arith) h-in h-root (by q)
        where
          by : IsInStrayPart d.nodes styles (place (suc i)) ⊎ W (number_of contexts o 0)
              → ((get_or marks (home o k) false || is_table_box (listed_at (B o) (home o k))) ≡ true) ⊎ W (number_of contexts o 0)
          by (inl p) = inl (sym (to-home o o-in marks known k k-some k-in) ∙ stray-is.1 p)
          by (inr v) = inr v

  first-own : (i : ℕ) → i < length contexts → Is S (listed_at (boxes_of all (number_of contexts i 0)) 0) ≡ true → IsWithin S d.nodes styles (place i)
  first-own i lt e =
      let f = facts-of i lt in
      own (place i) f.0 f.1 (sym (own-says i lt) ∙ (sym (first-is i 0 lt (are.boxes i lt).some refl) ∙ e))

  own-first : (i : ℕ) → i < length contexts → (f : Facts) → box_at d.nodes styles (place i) ≡ Some f → S f.flow (kind_of (text_at d.nodes (place i)) f.form) (style_at styles (place i)) ≡ true → W (number_of contexts i 0)
  own-first i lt f there e =
      first (number_of contexts i 0)
      (first-is i 0 lt (are.boxes i lt).some refl
      ∙ (ap (λ (bs : List BoxNode). Is S (listed_at bs 0)) (boxes-are i lt) ∙ (own-is d styles doc same (place i) (context-is i lt) f there S ∙ e)))

  place-root : place 0 ≡ 0
  place-root = by (cases_lt 0 (length contexts))
    where
      by : (0 < length contexts) ⊎ (length contexts ≤ 0) → place 0 ≡ 0
      by (inl some) = place-is 0 some ∙ ap (λ (x : ContextSpot). x.place) of_d.are.root
      by (inr none) = no-contexts contexts none

  -- By nodes.
  abbrev Nodes : ℕ → Type 0
  Nodes j = IsWithin S d.nodes styles j

  record Cases (j : ℕ) (A : Type 0) : Type 0 where
    by_own : (f : Facts) → box_at d.nodes styles j ≡ Some f → S f.flow (kind_of (text_at d.nodes j) f.form) (style_at styles j) ≡ true → A
    by_table : IsInStrayPart d.nodes styles j → A
    by_around : (a : ℕ) → IsAround d.nodes styles j a → Nodes a → A

  node-cases : (A : Type 0) (j : ℕ) → Nodes j → Cases j A → A
  node-cases A _ (own j f there e) c = c.by_own f there e
  node-cases A _ (table j w) c = c.by_table w
  node-cases A _ (around j a outside w) c = c.by_around a outside w

  stray-some : (j : ℕ) → IsInStrayPart d.nodes styles j → 0 < j
  stray-some _ (here j above e) = above
  stray-some _ (between j above e w) = above

  to-nodes : (turns i : ℕ) → i < turns → i < length contexts → W (number_of contexts i 0) → Nodes (place i)
  to-nodes zero i few lt w = absurd (omega (arith, few))
  to-nodes (suc turns) zero few lt w = elim (cases-of S all (number_of contexts 0 0) w) [
    | inl e ↦ first-own 0 lt e
    | inr out ↦ absurd (let z = out.0 in omega (arith, z))
  ]
  to-nodes (suc turns) (suc i) few lt w = elim (cases-of S all (number_of contexts (suc i) 0) w) [
    | inl e ↦ first-own (suc i) lt e
    | inr out ↦ (let marks = marks-of (o i lt) (o-in i lt) in
        let low_o = before i lt in
        elim (into i lt marks.0 marks.1 (subst W (context-outer i lt) out.1)) [
          | inl p ↦ table (place (suc i)) p
          | inr v ↦ around (place (suc i)) (place (o i lt)) (nearest i lt) (to-nodes turns (o i lt) (omega (arith, low_o, few)) (o-in i lt) v)
        ])
  ]

  -- out of the context around
  outside-by : (i : ℕ) (lt : suc i < length contexts) → IsInStrayPart d.nodes styles (place (suc i)) ⊎ W (number_of contexts (o i lt) 0) → W (number_of contexts (suc i) 0)
  outside-by i lt q =
      let marks = marks-of (o i lt) (o-in i lt) in
      outward (number_of contexts (suc i) 0) (context-some i lt) (subst W (sym (context-outer i lt)) (onto i lt marks.0 marks.1 q))

  from-nodes : (turns i : ℕ) → i < turns → i < length contexts → Nodes (place i) → W (number_of contexts i 0)
  from-nodes zero i few lt w = absurd (omega (arith, few))
  from-nodes (suc turns) zero few lt w = node-cases (W (number_of contexts 0 0)) (place 0) w (record {
    by_own = λ f there e. own-first 0 lt f there e;
    by_table = λ q. absurd (let z = stray-some (place 0) q in omega (arith, z, place-root));
    by_around = λ a outside v. absurd (let z = around-before d.nodes styles (place 0) doc.tree (place 0) a (within d.nodes styles (place 0) (marked-true (is_marked (box_at d.nodes styles (place 0))) (context-is 0 lt).establishes)) outside in omega (arith, z, place-root));
  })
  from-nodes (suc turns) (suc i) few lt w = node-cases (W (number_of contexts (suc i) 0)) (place (suc i)) w (record {
    by_own = λ f there e. own-first (suc i) lt f there e;
    by_table = λ q. outside-by i lt (inl q);
    by_around = λ a outside v.
        (let is = one-around d.nodes styles (place (suc i)) a (place (o i lt)) outside (nearest i lt) in
        let low_o = before i lt in
        outside-by i lt (inr (from-nodes turns (o i lt) (omega (arith, low_o, few)) (o-in i lt) (subst Nodes is v))));
  })

pub within_outward_by_nodes : WithinOutwardByNodes
within_outward_by_nodes S d styles contexts all takes lists i lt = (
  λ w. to-nodes S takes d styles contexts all lists.document lists.count lists.contexts_are lists.all_are (suc i) i (omega arith) lt w,
  λ w. from-nodes S takes d styles contexts all lists.document lists.count lists.contexts_are lists.all_are (suc i) i (omega arith) lt w,
)
