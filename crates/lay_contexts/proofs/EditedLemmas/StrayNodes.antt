-- Whether the box of an inner context stands in an anonymous table, within the context around, is said by the nodes between.
use Rattle.std.proofs.Common.{◌≡◌, ◌⊎◌, inl, inr, ℕ, zero, suc, ◌+◌, ◌-◌, ◌<◌, ◌≤◌, ◌==◌, ◌↔◌, Bool, true, false, ◌&&◌, ◌||◌, not, List, [], ◌∷◌, length, refl, ap, sym, subst, ◌∙◌, arith, if◌then◌else◌, Option, None, Some, option_map, slice_get, slice_index}
use Rattle.std.proofs.lemmas.Bool.{cases_lt, eqb-true, ne_eqb, or_left, or_right, and_left, or_cases, both_ways}
use Rattle.lay_style.specs.declared.style.Style.{Style}
use Rattle.lay_style.specs.declared.style_words.Display.{Display}
use Rattle.lay_style.specs.declared.style_words.Display.TheVariants as display
use Rattle.lay_style.specs.ComputedStyle.{style_at}
use Rattle.lay_doc.specs.declared.node.Kind.{Kind}
use Rattle.lay_doc.specs.declared.node.Kind.TheVariants as kind
use Rattle.lay_doc.specs.declared.node.Node.{Node}
use Rattle.lay_style.specs.declared.style_words.Overflow.{Overflow}
use Rattle.lay_doc.specs.Document.{Document, IsDocument, ids_of, is_element_at, parents_of}
use Rattle.lay_doc.specs.NewNodes.{is_element}
use Rattle.lay_doc.specs.Tree.{IsTree}
use Rattle.lay_boxgen.specs.Boxes.{Tree, Trees, tree, no_trees, also, trees_of, facts_of}
use Rattle.lay_boxgen.specs.Forms.{is_absolute, is_in_flow, is_inline, is_table, is_white}
use Rattle.lay_boxgen.specs.declared.facts.Facts.{Facts}
use Rattle.lay_boxgen.specs.declared.facts.Form.{Form}
use Rattle.lay_boxgen.specs.declared.facts.Form.TheVariants as form
use Rattle.lay_box_tree.specs.declared.box_tree.Flow.TheVariants as flow
use Rattle.lay_boxgen.specs.Contexts.{box_at, box_of_node, is_marked}
use Rattle.lay_boxgen.specs.CutTrees.{cut_tree_at, generated_cut}
use Rattle.lay_boxgen.specs.Display.{element_form, used_display_of}
use Rattle.lay_boxgen.specs.NodeBoxes.{establishes_context, facts_with, form_of, is_context_form, node_flow, replaced_form}
use Rattle.lay_boxgen.specs.NodeTrees.{anchor_facts, as_own, tree_at}
use Rattle.lay_boxgen.specs.Parts.{is_closed, nothing, part, put_list}
use Rattle.lay_contexts.proofs.Cited.{no_flow, part-cut}
use Rattle.lay_contexts.specs.ContextTree.{parent_of}
use Rattle.lay_contexts.specs.NodeTreeLaws.{child_trees, children_places}
use Rattle.lay_contexts.proofs.NodeFacts.{of_node}
use Rattle.lay_contexts.proofs.OneStand.{marked-true, within}
use Rattle.lay_contexts.proofs.RisingLists.{Has, from-has}
use Rattle.lay_contexts.specs.Edited.AnonymousTables.{AllInside, AnonymousTablesStandByNodes, EachInside, IsInStrayPart, IsKnownInside, ListInside, between, here, is_anonymous_table, is_stray, is_stray_part, strays_in}
use Rattle.lay_contexts.proofs.EditedLemmas.EachTree.{Each}
use Rattle.lay_contexts.proofs.EditedLemmas.StrayForms.{or-false}
use Rattle.lay_contexts.proofs.EditedLemmas.StrayRules.{After, AfterIn, Before, BeforeIn, after-list, inside-generated}
use Rattle.lay_contexts.proofs.EditedLemmas.PartLeaves.{and_tree, behind, below, cut-is, leaf, leaf-is, leaf_of, leaf_with, no-inline, own_with, place-of, put-and}

-- White space is a text.
abbrev NoWhite : Option Form → Type 0
NoWhite None = Unit {0}
NoWhite (Some x) = is_white x ≡ false

element-no-white : (c r : ℕ) (d : Display) → NoWhite (element_form c r d)
element-no-white c r display.None = tt
element-no-white c r _ = refl

no-white-there : (o : Option Form) (x : Form) → NoWhite o → o ≡ Some x → is_white x ≡ true → ⊥
no-white-there None x h e w = cc
no-white-there (Some y) x h e w = let g : y ≡ x = cc in both_ways (is_white y) h (ap is_white g ∙ w)

white-text : (is_root : Bool) (x : Kind) (text : List ℕ) (s : Style) (y : Form) → form_of is_root x text s ≡ Some y → is_white y ≡ true → x ≡ kind.Text
white-text is_root (kind.Element c r) text s y e w =
    absurd (no-white-there (element_form c r (used_display_of is_root (kind.Element c r) s)) y (element-no-white c r (used_display_of is_root (kind.Element c r) s)) e w)
white-text is_root kind.Text text s y e w = refl
white-text is_root (kind.Replaced width height) text s y e w =
    absurd (no-white-there (replaced_form width height (used_display_of is_root (kind.Replaced width height) s)) y (by (used_display_of is_root (kind.Replaced width height) s)) e w)
  where
    by : (d : Display) → NoWhite (replaced_form width height d)
    by display.None = tt
    by _ = refl

white-context : (x : Form) (o : Overflow) → is_white x ≡ true → is_context_form x o ≡ false
white-context (form.Text t) o e = refl
white-context _ o e = absurd cc

white-facts : (k : ℕ) (n : Node) (s : Style) (o : Option Form) (f : Facts) → form_of (k == 0) n.kind n.text s ≡ o → option_map (facts_with k n s) o ≡ Some f → is_white f.form ≡ true → (k == 0) ≡ false
    → (n.kind ≡ kind.Text) × (f.inner ≡ false)
white-facts k n s None f h e w positive = absurd cc
white-facts k n s (Some x) f h e w positive =
    let g : facts_with k n s x ≡ f = cc in
    let white : is_white x ≡ true = ap (λ (y : Facts). is_white y.form) g ∙ w in
    let text = white-text (k == 0) n.kind n.text s x h white in (
      text,
      sym (ap (λ (y : Facts). y.inner) g)
          ∙ (ap (λ (y : Kind). establishes_context (k == 0) (node_flow y s) x s.overflow) text
          ∙ (ap (λ (r : Bool). establishes_context r flow.InFlow x s.overflow) positive ∙ white-context x s.overflow white)),
    )

element-there : (nodes : List Node) (k : ℕ) (n : Node) → slice_get nodes k ≡ Some n → is_element_at nodes k ≡ is_element n.kind
element-there [] k n e = absurd cc
element-there (x ∷ xs) zero n e = let h : x ≡ n = cc in ap (λ (y : Node). is_element y.kind) h
element-there (x ∷ xs) (suc k) n e = element-there xs k n e

white-box : (nodes : List Node) (k : ℕ) (o : Option Node) (s : Style) (f : Facts) → slice_get nodes k ≡ o → box_of_node k o s ≡ Some f → is_white f.form ≡ true → (k == 0) ≡ false
    → (is_element_at nodes k ≡ false) × (f.inner ≡ false)
white-box nodes k None s f get e w positive = absurd cc
white-box nodes k (Some n) s f get e w positive =
    let h = white-facts k n s (form_of (k == 0) n.kind n.text s) f refl e w positive in
    (element-there nodes k n get ∙ ap is_element h.0, h.1)

root-no-white : (nodes : List Node) (s : Style) (o : Option Node) (f : Facts) → slice_get nodes 0 ≡ o → box_of_node 0 o s ≡ Some f → is_white f.form ≡ true → is_element_at nodes 0 ≡ true → ⊥
root-no-white nodes s None f get e w root = cc
root-no-white nodes s (Some n) f get e w root = by (form_of true n.kind n.text s) refl e
  where
    text : (x : Form) → form_of true n.kind n.text s ≡ Some x → is_white x ≡ true → ⊥
    text x h white = both_ways (is_element_at nodes 0) (element-there nodes 0 n get ∙ ap is_element (white-text true n.kind n.text s x h white)) root

    by : (o : Option Form) → form_of true n.kind n.text s ≡ o → option_map (facts_with 0 n s) o ≡ Some f → ⊥
    by None h e = cc
    by (Some x) h e = let g : facts_with 0 n s x ≡ f = cc in text x h (ap (λ (y : Facts). is_white y.form) g ∙ w)

no-members : (cs : List ℕ) → ((c : ℕ) → Has cs c → ⊥) → cs ≡ []
no-members [] h = refl
no-members (c ∷ cs) h = absurd (h c (inl refl))

open-by : (inner inline : Bool) → (inner ≡ true → inline ≡ false) → (inner && not inline) ≡ false → inner ≡ false
open-by true true h e = h refl
open-by true false h e = absurd cc
open-by false inline h e = refl

-- What is said by the nodes.
stray-cases : (nodes : List Node) (styles : List Style) (c : ℕ) → IsInStrayPart nodes styles c
    → (is_stray_part (box_at nodes styles (parent_of nodes c)) (box_at nodes styles c) ≡ true) ⊎ ((is_marked (box_at nodes styles (parent_of nodes c)) ≡ false) × IsInStrayPart nodes styles (parent_of nodes c))
stray-cases nodes styles _ (here k positive e) = inl e
stray-cases nodes styles _ (between k positive e w) = inr (e, w)

module _ (nodes : List Node) (ss : List Style) (is_tree : IsTree (parents_of nodes)) (same : length ss ≡ length nodes)
    (elements : (k : ℕ) → 0 < k → k < length nodes → is_element_at nodes (parent_of nodes k) ≡ true) where
  abbrev P : Bool → Facts → Type 0
  P = IsKnownInside nodes ss

  opened : (b : Bool) (f : Facts) → f.inner ≡ false → P b f
  opened b f e = λ inner. absurd (both_ways f.inner e inner)

  -- the state that the children of the node at k have, of which this is known
  abbrev Says : Bool → ℕ → Type 0
  Says b k = (b ≡ true) ↔ ((is_marked (box_at nodes ss k) ≡ false) × IsInStrayPart nodes ss k)

  module _ (c : ℕ) (positive : 0 < c) (b : Bool) (p f : Facts) (above : box_at nodes ss (parent_of nodes c) ≡ Some p) (there : box_at nodes ss c ≡ Some f) (says : Says b (parent_of nodes c)) where
    stray-is : is_stray_part (box_at nodes ss (parent_of nodes c)) (box_at nodes ss c) ≡ is_stray p f
    stray-is = ap (λ (o : Option Facts). is_stray_part o (box_at nodes ss c)) above ∙ ap (is_stray_part (Some p)) there

    into : (b || is_stray p f) ≡ true → IsInStrayPart nodes ss c
    into e = elim (or_cases b (is_stray p f) e) [
      | inl around ↦ (let u = says.0 around in between c positive u.0 u.1)
      | inr stray ↦ here c positive (stray-is ∙ stray)
    ]

    back : IsInStrayPart nodes ss c → (b || is_stray p f) ≡ true
    back w = elim (stray-cases nodes ss c w) [
      | inl stray ↦ or_right b (is_stray p f) (sym stray-is ∙ stray)
      | inr around ↦ or_left b (is_stray p f) (says.1 around)
    ]

    at-place : f.place ≡ c
    at-place = place-of c (slice_get nodes c) (style_at ss c) f there

    known : P (b || is_stray p f) f
    known = λ inner. (let n = of_node nodes ss c f there in record {
      element = n.plain;
      place = c;
      within = (let w = n.within in omega (arith, w, at-place));
      node = ap (slice_index (ids_of nodes)) (sym at-place) ∙ n.node;
      inside_is = (into, back);
    })

    known-anchor : P (b || is_stray p f) (anchor_facts f)
    known-anchor = λ inner. (let n = of_node nodes ss c f there in record {
      element = n.plain;
      place = c;
      within = (let w = n.within in omega (arith, w, at-place));
      node = ap (slice_index (ids_of nodes)) (sym at-place) ∙ n.node;
      inside_is = (into, back);
    })

  abbrev Child : Facts → Bool → Tree → Type 0
  Child f b u = Before P (b || is_stray f (facts_of u)) u

  abbrev ChildThere : Facts → Bool → Option Tree → Type 0
  ChildThere f b None = Unit {0}
  ChildThere f b (Some t) = Child f b t

  child-in : (f : Facts) (b : Bool) (ts : List Tree) → Each (Child f b) ts → BeforeIn P f b (trees_of ts)
  child-in f b [] h = tt
  child-in f b (t ∷ ts) h = (h.0, child-in f b ts h.1)

  child-and : (f : Facts) (b : Bool) (o : Option Tree) (ts : List Tree) → ChildThere f b o → Each (Child f b) ts → Each (Child f b) (and_tree o ts)
  child-and f b None ts h g = g
  child-and f b (Some t) ts h g = (h, g)

  children-are : (f : Facts) (b : Bool) (cs : List ℕ) → ((c : ℕ) → Has cs c → ChildThere f b (leaf nodes is_tree ss c)) → Each (Child f b) (put_list nothing (child_trees nodes ss cs))
  children-are f b [] h = tt
  children-are f b (c ∷ cs) h =
      subst (Each (Child f b)) (sym (put-and (tree_at nodes ss c) (child_trees nodes ss cs)))
      (child-and f b (leaf nodes is_tree ss c) (put_list nothing (child_trees nodes ss cs)) (h c (inl refl)) (children-are f b cs (λ e m. h e (inr m))))

  -- a text has no children
  no-children : (k : ℕ) → is_element_at nodes k ≡ false → below nodes is_tree ss k ≡ []
  no-children k e =
      ap (λ (cs : List ℕ). put_list nothing (child_trees nodes ss cs))
      (no-members (children_places nodes k) (λ c m.
      (let r = from-has (λ c. slice_index (parents_of nodes) c == k) c (k + 1) (length nodes - (k + 1)) m in
      let low = r.0 in
      let high = r.1 in
      let up : parent_of nodes c ≡ k = eqb-true (slice_index (parents_of nodes) c) k r.2 in
      both_ways (is_element_at nodes k) e (ap (is_element_at nodes) (sym up) ∙ elements c (omega (arith, low)) (omega (arith, low, high))))))

  blank-there : (c : ℕ) → 0 < c → (f : Facts) → box_at nodes ss c ≡ Some f → is_white f.form ≡ true → (f.inner ≡ false) × (below nodes is_tree ss c ≡ [])
  blank-there c positive f there w =
      let h = white-box nodes c (slice_get nodes c) (style_at ss c) f refl there w (ne_eqb c 0 (λ z. omega (arith, z, positive))) in
      (h.1, no-children c h.0)

  plain : (c : ℕ) (f : Facts) → box_at nodes ss c ≡ Some f → is_anonymous_table f ≡ false
  plain c f there = ap (λ (a : Bool). a && is_table f.form) (of_node nodes ss c f there).plain

  -- a node's tree, where it is known of the children
  leaf-by : (c : ℕ) → 0 < c → (b : Bool) (p f : Facts) → box_at nodes ss (parent_of nodes c) ≡ Some p → box_at nodes ss c ≡ Some f → Says b (parent_of nodes c)
      → (f.inner ≡ false → Each (Child f (b || is_stray p f)) (below nodes is_tree ss c))
      → Child p b (leaf_of f (below nodes is_tree ss c))
  leaf-by c positive b p f above there says rest = by (is_absolute f.flow) refl (is_closed f) refl
    where
      anchored : is_absolute f.flow ≡ true → Child p b (tree (anchor_facts f) no_trees)
      anchored e =
          let part : is_stray p f ≡ is_stray p (anchor_facts f) =
          and_left (is_in_flow f.flow) (strays_in p.form f.form) (no_flow f.flow e) in
          (subst (λ (x : Bool). P (b || x) (anchor_facts f)) part (known-anchor c positive b p f above there says), λ w. absurd cc, tt)

      opened-by : is_closed f ≡ false → Child p b (tree f (trees_of (below nodes is_tree ss c)))
      opened-by q =
          let open_there : f.inner ≡ false = open-by f.inner (is_inline f.form) (λ e. no-inline c (slice_get nodes c) (style_at ss c) f there e) q in (
            known c positive b p f above there says,
            λ w. (let h = blank-there c positive f there w in (h.0, ap trees_of h.1)),
            subst (λ (x : Bool). BeforeIn P f x (trees_of (below nodes is_tree ss c))) (sym (or-false (b || is_stray p f) (is_anonymous_table f) (plain c f there)))
                (child-in f (b || is_stray p f) (below nodes is_tree ss c) (rest open_there)),
          )

      by : (a : Bool) → is_absolute f.flow ≡ a → (q : Bool) → is_closed f ≡ q
          → Child p b (if a then tree (anchor_facts f) no_trees else tree f (if q then no_trees else trees_of (below nodes is_tree ss c)))
      by true e q g = anchored e
      by false e true g = (known c positive b p f above there says, λ w. ((blank-there c positive f there w).0, refl), tt)
      by false e false g = opened-by g

  leaf-there : (c : ℕ) → 0 < c → (b : Bool) (p : Facts) → box_at nodes ss (parent_of nodes c) ≡ Some p → Says b (parent_of nodes c)
      → ((f : Facts) → box_at nodes ss c ≡ Some f → f.inner ≡ false → Each (Child f (b || is_stray p f)) (below nodes is_tree ss c))
      → (o : Option Facts) → box_at nodes ss c ≡ o → ChildThere p b (leaf_with o (below nodes is_tree ss c))
  leaf-there c positive b p above says rest None e = tt
  leaf-there c positive b p above says rest (Some f) e = leaf-by c positive b p f above e says (rest f e)

  -- the children of a node with this box
  child-of : (k c : ℕ) → Has (children_places nodes k) c → (0 < c) × (parent_of nodes c ≡ k)
  child-of k c m =
      let r = from-has (λ c. slice_index (parents_of nodes) c == k) c (k + 1) (length nodes - (k + 1)) m in
      let low = r.0 in
      (omega (arith, low), eqb-true (slice_index (parents_of nodes) c) k r.2)

  -- below an open box it is said by that box's node
  says-below : (c : ℕ) → 0 < c → (b : Bool) (p f : Facts) → box_at nodes ss (parent_of nodes c) ≡ Some p → box_at nodes ss c ≡ Some f → f.inner ≡ false → Says b (parent_of nodes c) → Says (b || is_stray p f) c
  says-below c positive b p f above there e says = (
    λ s. (ap is_marked there ∙ e, into c positive b p f above there says s),
    λ u. back c positive b p f above there says u.1,
  )

  leaf-at : (turns c : ℕ) → length nodes ≤ c + turns → c < length nodes → 0 < c → (b : Bool) (p : Facts) → box_at nodes ss (parent_of nodes c) ≡ Some p → Says b (parent_of nodes c)
      → ChildThere p b (leaf nodes is_tree ss c)
  leaf-at zero c enough lt positive b p above says = absurd (omega (arith, enough, lt))
  leaf-at (suc turns) c enough lt positive b p above says =
      subst (ChildThere p b) (sym (leaf-is nodes is_tree ss same c lt))
      (leaf-there c positive b p above says
      (λ f there e. children-are f (b || is_stray p f) (children_places nodes c)
      (λ k m. (let r = behind nodes is_tree c k turns enough m in
      let u = child-of c k m in
      leaf-at turns k r.0 r.1 u.0 (b || is_stray p f) f (ap (box_at nodes ss) u.1 ∙ there)
      (subst (Says (b || is_stray p f)) (sym u.1) (says-below c positive b p f above there e says)))))
      (box_at nodes ss c) refl)

  abbrev OwnThere : Option Tree → Type 0
  OwnThere None = Unit {0}
  OwnThere (Some t) = Before P false t

  -- nothing is around the own box of a context
  module _ (a : ℕ) (lt : a < length nodes) (marked : is_marked (box_at nodes ss a) ≡ true) (no_white : (f : Facts) → box_at nodes ss a ≡ Some f → is_white f.form ≡ true → ⊥) where
    says-own : Says false a
    says-own = (λ e. absurd cc, λ u. absurd (both_ways (is_marked (box_at nodes ss a)) u.0 marked))

    own-children : (f : Facts) → box_at nodes ss a ≡ Some f → Each (Child f false) (below nodes is_tree ss a)
    own-children f there =
        children-are f false (children_places nodes a)
        (λ k m. (let r = behind nodes is_tree a k (length nodes) (omega arith) m in
        let u = child-of a k m in
        leaf-at (length nodes) k r.0 r.1 u.0 false f (ap (box_at nodes ss) u.1 ∙ there) (subst (Says false) (sym u.1) says-own)))

    own-there : (o : Option Facts) → box_at nodes ss a ≡ o → OwnThere (own_with o (below nodes is_tree ss a))
    own-there None e = tt
    own-there (Some f) e = (
      opened false (as_own f) refl,
      λ w. absurd (no_white f e w),
      subst (λ (x : Bool). BeforeIn P (as_own f) x (trees_of (below nodes is_tree ss a))) (sym (or-false false (is_anonymous_table f) (plain a f e)))
          (child-in (as_own f) false (below nodes is_tree ss a) (own-children f e)),
    )

    inside-cut : (o : Option Tree) → OwnThere o → Each (After P false) (generated_cut o)
    inside-cut None h = tt
    inside-cut (Some t) h = inside-generated P opened t h

    pub inside-part : Each (After P false) (part nodes ss a)
    inside-part =
        subst (Each (After P false)) (part-cut (tree_at nodes ss a))
        (after-list P opened false (generated_cut (cut_tree_at nodes ss a))
        (inside-cut (cut_tree_at nodes ss a) (subst OwnThere (sym (cut-is nodes is_tree ss same a lt)) (own-there (box_at nodes ss a) refl))))

-- What holds of each box, without what is known of white space.
mutual
  inside-tree : (P : Bool → Facts → Type 0) (b : Bool) (t : Tree) → After P b t → EachInside P b t
  inside-tree P b (tree f us) h = (h.0, inside-trees P (b || is_anonymous_table f) us h.2)

  inside-trees : (P : Bool → Facts → Type 0) (b : Bool) (us : Trees) → AfterIn P b us → AllInside P b us
  inside-trees P b no_trees h = tt
  inside-trees P b (also t us) h = (inside-tree P b t h.0, inside-trees P b us h.1)

inside-list : (P : Bool → Facts → Type 0) (b : Bool) (ts : List Tree) → Each (After P b) ts → ListInside P b ts
inside-list P b [] h = tt
inside-list P b (t ∷ ts) h = (inside-tree P b t h.0, inside-list P b ts h.1)

-- a context is no white space
context-no-white : (d : Document) → IsDocument d → (styles : List Style) (a : ℕ) → is_marked (box_at d.nodes styles a) ≡ true → (f : Facts) → box_at d.nodes styles a ≡ Some f → is_white f.form ≡ true → ⊥
context-no-white d doc styles a marked f there w = elim (cases_lt 0 a) [
  | inl above ↦ (let h = white-box d.nodes a (slice_get d.nodes a) (style_at styles a) f refl there w (ne_eqb a 0 (λ z. omega (arith, z, above))) in
      both_ways f.inner h.1 (sym (ap is_marked there) ∙ marked))
  | inr low ↦ (let z : a ≡ 0 = omega (arith, low) in
      root (subst (λ (k : ℕ). box_at d.nodes styles k ≡ Some f) z there))
]
  where
    -- the root is an element
    root : box_at d.nodes styles 0 ≡ Some f → ⊥
    root e = root-no-white d.nodes (style_at styles 0) (slice_get d.nodes 0) f refl e w doc.root_element

pub anonymous_tables_stand_by_nodes : AnonymousTablesStandByNodes
anonymous_tables_stand_by_nodes d styles a doc same context =
    let marked = marked-true (is_marked (box_at d.nodes styles a)) context.establishes in
    inside-list (IsKnownInside d.nodes styles) false (part d.nodes styles a)
    (inside-part d.nodes styles doc.tree same doc.parent_elements a (within d.nodes styles a marked) marked (context-no-white d doc styles a marked))
