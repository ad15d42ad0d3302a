-- The style of an absolute or fixed element counts for nothing in the boxes of the context around, where its anchor stands: an
-- anchor has the style of its parent box.
use Rattle.std.proofs.Common.{◌≡◌, ◌⊎◌, inl, inr, ℕ, zero, suc, ◌+◌, ◌<◌, ◌≤◌, ◌==◌, Bool, true, false, List, [], ◌∷◌, ◌++◌, length, refl, ap, sym, subst, ◌∙◌, arith, if◌then◌else◌, Option, None, Some, option_map, slice_get}
use Rattle.std.proofs.lemmas.Bool.{cases_eq}
use Rattle.lay_style.specs.declared.style.Style.{Style}
use Rattle.lay_style.specs.ComputedStyle.{style_at}
use Rattle.lay_doc.specs.declared.node.Node.{Node}
use Rattle.lay_doc.specs.Document.{parents_of}
use Rattle.lay_doc.specs.Tree.{IsTree}
use Rattle.lay_boxgen.specs.Boxes.{Tree, Trees, tree, no_trees, also, trees_of, facts_of}
use Rattle.lay_boxgen.specs.Forms.{is_absolute, is_anchor}
use Rattle.lay_boxgen.specs.declared.facts.Facts.{Facts}
use Rattle.lay_boxgen.specs.declared.facts.Form.{Form}
use Rattle.lay_box_tree.specs.declared.box_tree.BoxNode.{BoxNode}
use Rattle.lay_boxgen.specs.Contexts.{box_at, box_of_node, is_marked}
use Rattle.lay_boxgen.specs.CutTrees.{cut_tree_at, generated_cut}
use Rattle.lay_boxgen.specs.Listing.{all_listed, box_node, box_style, listed, listed_part, style_below, style_of}
use Rattle.lay_boxgen.specs.NodeBoxes.{facts_with, form_of}
use Rattle.lay_boxgen.specs.NodeTrees.{anchor_facts, box_with, tree_at}
use Rattle.lay_boxgen.specs.Parts.{is_closed, nothing, part, put_list}
use Rattle.lay_contexts.proofs.Cited.{context_is_one_box, part-cut}
use Rattle.lay_contexts.specs.ContextTree.{boxes_of_place}
use Rattle.lay_contexts.specs.NodeTreeLaws.{child_trees, children_places}
use Rattle.lay_contexts.proofs.ChildTrees.{in-order}
use Rattle.lay_contexts.proofs.RisingLists.{Has}
use Rattle.lay_contexts.proofs.EditedLemmas.ClearTrees.{Clear, ClearIn, clear-generated, clear-in, clear-put_list}
use Rattle.lay_contexts.proofs.EditedLemmas.EachTree.{Each}
use Rattle.lay_contexts.proofs.EditedLemmas.PartLeaves.{and_tree, behind, below, cut-is, leaf, leaf-is, leaf_of, leaf_with, no-inline, own_with, place-of, put-and}

anchor-by : (k : ℕ) (n : Node) (s t : Style) (o q : Option Form) (f g : Facts) → option_map (facts_with k n s) o ≡ Some f → option_map (facts_with k n t) q ≡ Some g → anchor_facts f ≡ anchor_facts g
anchor-by k n s t None q f g e h = absurd cc
anchor-by k n s t (Some x) None f g e h = absurd cc
anchor-by k n s t (Some x) (Some y) f g e h =
    let a : facts_with k n s x ≡ f = cc in
    let b : facts_with k n t y ≡ g = cc in
    sym (ap anchor_facts a) ∙ ap anchor_facts b

anchor-same : (k : ℕ) (o : Option Node) (s t : Style) (f g : Facts) → box_of_node k o s ≡ Some f → box_of_node k o t ≡ Some g → anchor_facts f ≡ anchor_facts g
anchor-same k None s t f g e h = absurd cc
anchor-same k (Some n) s t f g e h = anchor-by k n s t (form_of (k == 0) n.kind n.text s) (form_of (k == 0) n.kind n.text t) f g e h

leaf-absolute : (f : Facts) (xs : List Tree) → is_absolute f.flow ≡ true → leaf_of f xs ≡ tree (anchor_facts f) no_trees
leaf-absolute f xs e = ap (λ (b : Bool). if b then tree (anchor_facts f) no_trees else tree f (if is_closed f then no_trees else trees_of xs)) e

-- Trees that are clear of a place.
abbrev ClearThere : ℕ → Option Tree → Type 0
ClearThere p None = Unit {0}
ClearThere p (Some t) = Clear p t

clear-and : (p : ℕ) (o : Option Tree) (ts : List Tree) → ClearThere p o → Each (Clear p) ts → Each (Clear p) (and_tree o ts)
clear-and p None ts h g = g
clear-and p (Some t) ts h g = (h, g)

clear-cut : (p : ℕ) (o : Option Tree) → ClearThere p o → Each (Clear p) (generated_cut o)
clear-cut p None h = tt
clear-cut p (Some t) h = clear-generated p t h

clear-leaf : (p : ℕ) (o : Option Facts) (xs : List Tree) → ((f : Facts) → o ≡ Some f → is_absolute f.flow ≡ false → f.place ≡ p → ⊥) → Each (Clear p) xs → ClearThere p (leaf_with o xs)
clear-leaf p None xs apart h = tt
clear-leaf p (Some f) xs apart h = by (is_absolute f.flow) refl (is_closed f)
  where
    inner : (b : Bool) → ClearIn p (if b then no_trees else trees_of xs)
    inner true = tt
    inner false = clear-in p xs h

    by : (a : Bool) → is_absolute f.flow ≡ a → (b : Bool) → Clear p (if a then tree (anchor_facts f) no_trees else tree f (if b then no_trees else trees_of xs))
    by true e b = ((λ same. (refl, refl)), tt)
    by false e b = ((λ same. absurd (apart f refl e same)), inner b)

clear-own : (p : ℕ) (o : Option Facts) (xs : List Tree) → ((f : Facts) → o ≡ Some f → f.place ≡ p → ⊥) → Each (Clear p) xs → ClearThere p (own_with o xs)
clear-own p None xs apart h = tt
clear-own p (Some f) xs apart h = ((λ same. absurd (apart f refl same)), clear-in p xs h)

module _ (nodes : List Node) (is_tree : IsTree (parents_of nodes)) (p : ℕ) where
  abbrev n : ℕ
  n = length nodes

  -- at p is an absolute box, and what is at p in the part is its anchor alone
  module _ (ss : List Style) (same : length ss ≡ length nodes) (f : Facts) (there : box_at nodes ss p ≡ Some f) (absolute : is_absolute f.flow ≡ true) where
    apart : (k : ℕ) (g : Facts) → box_at nodes ss k ≡ Some g → is_absolute g.flow ≡ false → g.place ≡ p → ⊥
    apart k g e in_flow at =
        let is : k ≡ p = sym (place-of k (slice_get nodes k) (style_at ss k) g e) ∙ at in
        let h : Some g ≡ Some f = sym e ∙ (ap (box_at nodes ss) is ∙ there) in
        let same_box : g ≡ f = cc in
        let z : false ≡ true = sym in_flow ∙ (ap (λ (x : Facts). is_absolute x.flow) same_box ∙ absolute) in
        cc

    clear-children : (cs : List ℕ) → ((c : ℕ) → Has cs c → ClearThere p (leaf nodes is_tree ss c)) → Each (Clear p) (put_list nothing (child_trees nodes ss cs))
    clear-children [] h = tt
    clear-children (c ∷ cs) h =
        subst (Each (Clear p)) (sym (put-and (tree_at nodes ss c) (child_trees nodes ss cs)))
        (clear-and p (leaf nodes is_tree ss c) (put_list nothing (child_trees nodes ss cs)) (h c (inl refl)) (clear-children cs (λ d m. h d (inr m))))

    clear-at : (turns k : ℕ) → n ≤ k + turns → k < n → ClearThere p (leaf nodes is_tree ss k)
    clear-at zero k enough lt = absurd (omega (arith, enough, lt))
    clear-at (suc turns) k enough lt =
        subst (ClearThere p) (sym (leaf-is nodes is_tree ss same k lt))
        (clear-leaf p (box_at nodes ss k) (below nodes is_tree ss k) (apart k)
        (clear-children (children_places nodes k) (λ c m. (let b = behind nodes is_tree k c turns enough m in clear-at turns c b.0 b.1))))

    clear-below : (k : ℕ) → Each (Clear p) (below nodes is_tree ss k)
    clear-below k = clear-children (children_places nodes k) (λ c m. (let b = behind nodes is_tree k c n (omega arith) m in clear-at n c b.0 b.1))

    clear-part : (c : ℕ) → (c ≡ p → ⊥) → c < n → Each (Clear p) (part nodes ss c)
    clear-part c other lt =
        let mine : ClearThere p (own_with (box_at nodes ss c) (below nodes is_tree ss c)) =
        clear-own p (box_at nodes ss c) (below nodes is_tree ss c) (λ g e at. other (sym (place-of c (slice_get nodes c) (style_at ss c) g e) ∙ at)) (clear-below c) in
        subst (Each (Clear p)) (part-cut (tree_at nodes ss c))
        (clear-put_list p (generated_cut (cut_tree_at nodes ss c)) (clear-cut p (cut_tree_at nodes ss c) (subst (ClearThere p) (sym (cut-is nodes is_tree ss same c lt)) mine)))

  -- two lists of styles that differ at p alone, where both have an absolute box
  module _ (ss ts : List Style) (same : length ss ≡ length nodes) (same_there : length ts ≡ length nodes) (others : (k : ℕ) → (k ≡ p → ⊥) → style_at ss k ≡ style_at ts k)
      (f g : Facts) (there : box_at nodes ss p ≡ Some f) (there_too : box_at nodes ts p ≡ Some g) (absolute : is_absolute f.flow ≡ true) (absolute_too : is_absolute g.flow ≡ true) where
    same-box : (k : ℕ) → (k ≡ p → ⊥) → box_at nodes ss k ≡ box_at nodes ts k
    same-box k other = ap (λ (s : Style). box_of_node k (slice_get nodes k) s) (others k other)

    same-anchor : (xs ys : List Tree) → leaf_with (box_at nodes ss p) xs ≡ leaf_with (box_at nodes ts p) ys
    same-anchor xs ys =
        ap (λ (o : Option Facts). leaf_with o xs) there
        ∙ (ap Some (leaf-absolute f xs absolute)
        ∙ (ap (λ (x : Facts). Some (tree x no_trees)) (anchor-same p (slice_get nodes p) (style_at ss p) (style_at ts p) f g there there_too)
        ∙ (ap Some (sym (leaf-absolute g ys absolute_too)) ∙ ap (λ (o : Option Facts). leaf_with o ys) (sym there_too))))

    same-children : (cs : List ℕ) → ((c : ℕ) → Has cs c → leaf nodes is_tree ss c ≡ leaf nodes is_tree ts c) → put_list nothing (child_trees nodes ss cs) ≡ put_list nothing (child_trees nodes ts cs)
    same-children [] h = refl
    same-children (c ∷ cs) h =
        put-and (tree_at nodes ss c) (child_trees nodes ss cs)
        ∙ (ap (λ (o : Option Tree). and_tree o (put_list nothing (child_trees nodes ss cs))) (h c (inl refl))
        ∙ (ap (and_tree (leaf nodes is_tree ts c)) (same-children cs (λ d m. h d (inr m)))
        ∙ sym (put-and (tree_at nodes ts c) (child_trees nodes ts cs))))

    same-by : (k : ℕ) → below nodes is_tree ss k ≡ below nodes is_tree ts k → leaf_with (box_at nodes ss k) (below nodes is_tree ss k) ≡ leaf_with (box_at nodes ts k) (below nodes is_tree ts k)
    same-by k e = elim (cases_eq k p) [
      | inl is ↦ subst (λ (j : ℕ). leaf_with (box_at nodes ss j) (below nodes is_tree ss k) ≡ leaf_with (box_at nodes ts j) (below nodes is_tree ts k)) (sym is) (same-anchor (below nodes is_tree ss k) (below nodes is_tree ts k))
      | inr other ↦ ap (λ (o : Option Facts). leaf_with o (below nodes is_tree ss k)) (same-box k other) ∙ ap (leaf_with (box_at nodes ts k)) e
    ]

    same-leaf : (turns k : ℕ) → n ≤ k + turns → k < n → leaf nodes is_tree ss k ≡ leaf nodes is_tree ts k
    same-leaf zero k enough lt = absurd (omega (arith, enough, lt))
    same-leaf (suc turns) k enough lt =
        leaf-is nodes is_tree ss same k lt
        ∙ (same-by k (same-children (children_places nodes k) (λ c m. (let b = behind nodes is_tree k c turns enough m in same-leaf turns c b.0 b.1)))
        ∙ sym (leaf-is nodes is_tree ts same_there k lt))

    same-below : (k : ℕ) → below nodes is_tree ss k ≡ below nodes is_tree ts k
    same-below k = same-children (children_places nodes k) (λ c m. (let b = behind nodes is_tree k c n (omega arith) m in same-leaf n c b.0 b.1))

    same-part : (c : ℕ) → (c ≡ p → ⊥) → c < n → part nodes ss c ≡ part nodes ts c
    same-part c other lt =
        let cut : cut_tree_at nodes ss c ≡ cut_tree_at nodes ts c =
        cut-is nodes is_tree ss same c lt
        ∙ (ap (λ (o : Option Facts). own_with o (below nodes is_tree ss c)) (same-box c other)
        ∙ (ap (own_with (box_at nodes ts c)) (same-below c) ∙ sym (cut-is nodes is_tree ts same_there c lt))) in
        sym (part-cut (tree_at nodes ss c)) ∙ (ap (λ (o : Option Tree). put_list nothing (generated_cut o)) cut ∙ part-cut (tree_at nodes ts c))

    -- What is listed.
    style-there : (x : Facts) → (x.place ≡ p → ⊥) → style_of ss x ≡ style_of ts x
    style-there x other = ap (box_style x.anonymous) (others x.place other)

    style-by : (above x : Facts) → (above.place ≡ p → ⊥) → (x.place ≡ p → is_anchor x.form ≡ true) → style_below ss above x ≡ style_below ts above x
    style-by above x outside anchor = by (is_anchor x.form) refl
      where
        by : (b : Bool) → is_anchor x.form ≡ b → style_of ss (if b then above else x) ≡ style_of ts (if b then above else x)
        by true e = style-there above outside
        by false e = style-there x (λ at. (let z : true ≡ false = sym (anchor at) ∙ e in cc))

    abbrev node_of : Facts → ℕ → Facts → Style → BoxNode
    node_of above parent x s = record (box_node nodes ss above parent x) { style = s }

    same-node : (above : Facts) (parent : ℕ) (x : Facts) → (above.place ≡ p → ⊥) → (x.place ≡ p → is_anchor x.form ≡ true) → box_node nodes ss above parent x ≡ box_node nodes ts above parent x
    same-node above parent x outside anchor = ap (node_of above parent x) (style-by above x outside anchor)

    -- nothing is in what stands at p
    in-by : (x : Facts) → (x.place ≡ p) ⊎ (x.place ≡ p → ⊥) → (parent at : ℕ) (us : Trees) → (x.place ≡ p → us ≡ no_trees)
        → ((x.place ≡ p → ⊥) → all_listed nodes ss x parent at us ≡ all_listed nodes ts x parent at us)
        → all_listed nodes ss x parent at us ≡ all_listed nodes ts x parent at us
    in-by x (inl is) parent at us none rest =
        ap (all_listed nodes ss x parent at) (none is) ∙ sym (ap (all_listed nodes ts x parent at) (none is))
    in-by x (inr other) parent at us none rest = rest other

    mutual
      same-listed : (above : Facts) (parent at : ℕ) (t : Tree) → (above.place ≡ p → ⊥) → Clear p t → listed nodes ss above parent at t ≡ listed nodes ts above parent at t
      same-listed above parent at (tree x us) outside clear =
          ap (λ (b : BoxNode). b ∷ all_listed nodes ss x at (at + 1) us) (same-node above parent x outside (λ e. (clear.0 e).0))
          ∙ ap (λ (bs : List BoxNode). box_node nodes ts above parent x ∷ bs) (in-by x (cases_eq x.place p) at (at + 1) us (λ e. (clear.0 e).1) (λ other. same-all x at (at + 1) us other clear.1))

      same-all : (above : Facts) (parent at : ℕ) (us : Trees) → (above.place ≡ p → ⊥) → ClearIn p us → all_listed nodes ss above parent at us ≡ all_listed nodes ts above parent at us
      same-all above parent at no_trees outside clear = refl
      same-all above parent at (also t us) outside clear =
          let e = same-listed above parent at t outside clear.0 in
          ap (λ (bs : List BoxNode). bs ++ all_listed nodes ss above parent (at + length bs) us) e
          ∙ ap (λ (bs : List BoxNode). listed nodes ts above parent at t ++ bs) (same-all above parent (at + length (listed nodes ts above parent at t)) us outside clear.1)

    abbrev StartsApart : List Tree → Type 0
    StartsApart [] = Unit {0}
    StartsApart (t ∷ ts) = (facts_of t).place ≡ p → ⊥

    same-part-listed : (us : List Tree) → Each (Clear p) us → StartsApart us → listed_part nodes ss us ≡ listed_part nodes ts us
    same-part-listed [] clear outside = refl
    same-part-listed (t ∷ us) clear outside = same-all (facts_of t) 0 0 (trees_of (t ∷ us)) outside (clear-in p (t ∷ us) clear)

    -- the own box of a context comes first
    starts-apart : (c : ℕ) → (c ≡ p → ⊥) → c < n → is_marked (box_at nodes ss c) ≡ true → StartsApart (part nodes ss c)
    starts-apart c other lt marked = by (box_at nodes ss c) refl marked
      where
        by : (o : Option Facts) → box_at nodes ss c ≡ o → is_marked o ≡ true → StartsApart (part nodes ss c)
        by None e h = absurd cc
        by (Some x) e h =
            let mine : tree_at nodes ss c ≡ Some (tree x (trees_of (child_trees nodes ss (children_places nodes c)))) =
            in-order nodes ss is_tree same c lt ∙ ap (λ (q : Option Facts). box_with q (child_trees nodes ss (children_places nodes c))) e in
            let one = context_is_one_box nodes ss c x (trees_of (child_trees nodes ss (children_places nodes c))) mine (no-inline c (slice_get nodes c) (style_at ss c) x e h) in
            subst StartsApart (sym (ap (put_list nothing) one)) (λ at. other (sym (place-of c (slice_get nodes c) (style_at ss c) x e) ∙ at))

    pub same-boxes : (c : ℕ) → (c ≡ p → ⊥) → c < n → is_marked (box_at nodes ss c) ≡ true → boxes_of_place nodes ss c ≡ boxes_of_place nodes ts c
    same-boxes c other lt marked =
        same-part-listed (part nodes ss c) (clear-part ss same f there absolute c other lt) (starts-apart c other lt marked)
        ∙ ap (listed_part nodes ts) (same-part c other lt)
