-- A context's box, or its anchor, comes to stand among the boxes of the nearest context above it.
use Rattle.std.proofs.Common.{◌≡◌, ℕ, ◌+◌, ◌<◌, ◌≤◌, ◌==◌, Bool, true, false, not, List, [], ◌∷◌, ◌++◌, length, refl, ap, sym, subst, ◌∙◌, arith, inl, inr, filter, IsTrue, if◌then◌else◌, Option, None, Some, slice_index}
use Rattle.lay_style.specs.declared.style.Style.{Style}
use Rattle.lay_doc.specs.declared.node.Node.{Node}
use Rattle.lay_doc.specs.Document.{ids_of, parents_of, is_element_at}
use Rattle.lay_doc.specs.Tree.{IsTree}
use Rattle.lay_contexts.proofs.Cited.{is-node_box, IsBoxOf, IsNodeBox, kept_by, parent_generates}
use Rattle.lay_doc.proofs.NodeColumns.{length-parents}
use Rattle.lay_boxgen.specs.Boxes.{Tree, Trees, tree, no_trees, also, trees_of, facts_of, remade, all_remade, in_box}
use Rattle.lay_boxgen.specs.Contexts.{box_at, is_marked, keeps, keeps_form, GeneratesBox}
use Rattle.lay_boxgen.specs.Forms.{is_absolute, is_column, is_column_group, is_text, is_white}
use Rattle.lay_boxgen.specs.Irrelevant.{is_column_box, is_irrelevant, kept_from, kept_gap, column_group_children, relevant, without_white_space}
use Rattle.lay_boxgen.specs.NodeBoxes.{node_box}
use Rattle.lay_boxgen.specs.NodeTrees.{as_child, as_own, anchor_facts, box_with, children_of, tree_at}
use Rattle.lay_boxgen.specs.Parts.{generated_of, whole}
use Rattle.lay_boxgen.specs.Runs.{is_white_box}
use Rattle.lay_boxgen.specs.declared.facts.Facts.{Facts}
use Rattle.lay_boxgen.specs.declared.facts.Form.{Form}
use Rattle.lay_boxgen.specs.declared.facts.Form.TheVariants.{Anchor, Text}
use Rattle.lay_contexts.specs.ContextTree.{IsAround, parent, further, parent_of}
use Rattle.lay_contexts.proofs.Kept.{append, generated_holds, held, no_text_tree, sum_held, sum_is}
use Rattle.lay_contexts.proofs.Members.{InTrees, NodeAt, forest, in-trees, is-child, node-at, tree-is}
use Rattle.lay_contexts.proofs.NodeKinds.{IsNoColumnWhereAbsolute, IsNoTextBox, IsNoTextWhereInner, absolute-box, element-box, element-there, inner-box}

module _ (id : ℕ) where
  -- The first stage leaves what a parent of some form keeps.
  abbrev kept_sum : Form → List Tree → ℕ
  kept_sum p [] = 0
  kept_sum p (t ∷ ts) = (if keeps_form p (facts_of t).form then held id t else 0) + kept_sum p ts

  white-text : (x : Form) → is_white x ≡ true → not (is_text x) ≡ false
  white-text (Text t) h = refl
  white-text _ h = absurd cc

  gap_none : (p : Form) (b a : Option Facts) (gap : List Tree) → sum_held id gap ≡ 0 → sum_held id (kept_gap p b gap a) ≡ 0
  gap_none p b a gap h = by (is_irrelevant p b a)
    where
      by : (c : Bool) → sum_held id (if c then [] else gap) ≡ 0
      by true = refl
      by false = h

  kept_from_holds : (p : Form) (ts : List Tree) (b : Option Facts) (gap : List Tree) → sum_held id gap ≡ 0 → sum_held id (kept_from p b gap ts) ≡ sum_held id ts
  kept_from_holds p [] b gap h = gap_none p b None gap h
  kept_from_holds p (t ∷ ts) b gap h = by (kept_from_holds p ts) (is_white_box t) refl
    where
      by : ((b : Option Facts) (g : List Tree) → sum_held id g ≡ 0 → sum_held id (kept_from p b g ts) ≡ sum_held id ts) → (c : Bool) → is_white_box t ≡ c
          → sum_held id (if c then kept_from p b (gap ++ t ∷ []) ts else kept_gap p b gap (Some (facts_of t)) ++ t ∷ [] ++ kept_from p (Some (facts_of t)) [] ts) ≡ sum_held id (t ∷ ts)
      by rest true e =
          let z = no_text_tree id t (white-text (facts_of t).form e) in
          let a = append id gap (t ∷ []) in
          let r = rest b (gap ++ t ∷ []) (omega (arith, a, z, h)) in
          omega (arith, r, z)
      by rest false e =
          let g = gap_none p b (Some (facts_of t)) gap h in
          let a = append id (kept_gap p b gap (Some (facts_of t)) ++ t ∷ []) (kept_from p (Some (facts_of t)) [] ts) in
          let c = append id (kept_gap p b gap (Some (facts_of t))) (t ∷ []) in
          let r = rest (Some (facts_of t)) [] refl in
          omega (arith, a, c, g, r)

  at_most : (p : Form) (ts : List Tree) → kept_sum p ts ≤ sum_held id ts
  at_most p [] = omega arith
  at_most p (t ∷ ts) = let r = at_most p ts in by (keeps_form p (facts_of t).form) r
    where
      by : (b : Bool) → kept_sum p ts ≤ sum_held id ts → (if b then held id t else 0) + kept_sum p ts ≤ sum_held id (t ∷ ts)
      by true r = omega (arith, r)
      by false r = omega (arith, r)

  no_column_keeps : (p : Form) → is_column p ≡ true → (ts : List Tree) → kept_sum p ts ≡ 0
  no_column_keeps p e [] = refl
  no_column_keeps p e (t ∷ ts) = let r = no_column_keeps p e ts in rw e (omega (arith, r))

  column_group_keeps : (p : Form) → is_column p ≡ false → is_column_group p ≡ true → (ts : List Tree) → kept_sum p ts ≡ sum_held id (column_group_children ts)
  column_group_keeps p e g [] = refl
  column_group_keeps p e g (t ∷ ts) = let r = column_group_keeps p e g ts in rw (e, g) (by (is_column (facts_of t).form) r)
    where
      by : (b : Bool) → kept_sum p ts ≡ sum_held id (column_group_children ts)
          → (if b then held id t else 0) + kept_sum p ts ≡ sum_held id (if b then t ∷ filter is_column_box ts else filter is_column_box ts)
      by true r = omega (arith, r)
      by false r = omega (arith, r)

  relevant_keeps : (f : Facts) (ts : List Tree) → kept_sum f.form ts ≤ sum_held id (relevant f ts)
  relevant_keeps f ts = by (is_column f.form) (is_column_group f.form) refl refl
    where
      by : (b c : Bool) → is_column f.form ≡ b → is_column_group f.form ≡ c
          → kept_sum f.form ts ≤ sum_held id (if b then [] else (if c then column_group_children ts else without_white_space f.form ts))
      by true c e g = let z = no_column_keeps f.form e ts in omega (arith, z)
      by false true e g = let z = column_group_keeps f.form e g ts in omega (arith, z)
      by false false e g = let z = kept_from_holds f.form ts None [] refl in let m = at_most f.form ts in omega (arith, z, m)

  abbrev first_stage : List Tree → List Tree
  first_stage ts = all_remade (in_box relevant) (trees_of ts)

  one-remade : (p : Form) (t : Tree) (us : Trees) → keeps_form p (facts_of t).form ≡ true
      → kept_sum p (all_remade (in_box relevant) (also t us)) ≡ sum_held id (remade (in_box relevant) t) + kept_sum p (all_remade (in_box relevant) us)
  one-remade p (tree f vs) us e = rw e (omega arith)

  other-remade : (p : Form) (t : Tree) (us : Trees) → kept_sum p (all_remade (in_box relevant) us) ≤ kept_sum p (all_remade (in_box relevant) (also t us))
  other-remade p (tree f vs) us = omega arith

  member-kept : (p : Form) (t : Tree) (us : Trees) → keeps_form p (facts_of t).form ≡ true → InTrees t us
      → sum_held id (remade (in_box relevant) t) ≤ kept_sum p (all_remade (in_box relevant) us)
  member-kept p t no_trees e h = absurd h
  member-kept p t (also u us) e (inl same) =
      subst (λ (x : Tree). sum_held id (remade (in_box relevant) t) ≤ kept_sum p (all_remade (in_box relevant) (also x us))) (sym same)
      (let o = one-remade p t us e in omega (arith, o))
  member-kept p t (also u us) e (inr h) = let r = member-kept p t us e h in let o = other-remade p u us in omega (arith, r, o)

facts-in : (o : Option Facts) (cs : List Tree) (f : Facts) (us : Trees) → box_with o cs ≡ Some (tree f us) → (o ≡ Some f) × (trees_of cs ≡ us)
facts-in None cs f us e = cc
facts-in (Some g) cs f us e = (ap (λ r. facts_or g r) e, ap (λ r. trees_or us r) e)
  where
    facts_or : Facts → Option Tree → Option Facts
    facts_or x None = None
    facts_or x (Some (tree y vs)) = Some y

    trees_or : Trees → Option Tree → Trees
    trees_or x None = x
    trees_or x (Some (tree y vs)) = vs

module _ (nodes : List Node) (styles : List Style) (is_tree : IsTree (parents_of nodes)) (same : length styles ≡ length nodes)
    (elements : (k : ℕ) → 0 < k → k < length nodes → is_element_at nodes (parent_of nodes k) ≡ true) (id : ℕ) where
  abbrev there : (q : ℕ) → q < length nodes → NodeAt nodes styles is_tree same q
  there q lt = node-at nodes styles is_tree same q lt

  -- the box of a tree's node
  pub record IsTreeAt (q : ℕ) (f : Facts) (us : Trees) : Type 0 where
    pub box : box_at nodes styles q ≡ Some f
    pub children : trees_of (children_of as_child q (forest nodes styles is_tree same (q + 1))) ≡ us

  pub tree-there : (q : ℕ) → q < length nodes → (f : Facts) (us : Trees) → tree_at nodes styles q ≡ Some (tree f us) → IsTreeAt q f us
  tree-there q lt f us e =
      let n = there q lt in
      let h = facts-in (node_box q n.node n.style) (children_of as_child q (forest nodes styles is_tree same (q + 1))) f us (sym (tree-is nodes styles is_tree same q n) ∙ e) in
      record { box = n.box ∙ h.0; children = h.1 }

  -- its box or its anchor holds the box that is looked for
  abbrev Shown : ℕ → Type 0
  Shown q = (t : Tree) → tree_at nodes styles q ≡ Some t → 1 ≤ sum_held id (remade (in_box relevant) (as_child t))

  -- it is held inside the tree
  abbrev pub Inside : ℕ → Type 0
  Inside q = (f : Facts) (us : Trees) → tree_at nodes styles q ≡ Some (tree f us) → 1 ≤ sum_held id (relevant f (all_remade (in_box relevant) us))

  keep-anchor : (p x : Form) → is_column x ≡ false → keeps_form p x ≡ true → keeps_form p Anchor ≡ true
  keep-anchor p x e h = rw e at h

  kept-form : (o r : Option Facts) (f g : Facts) → o ≡ Some f → r ≡ Some g → IsTrue (keeps o r) → keeps_form f.form g.form ≡ true
  kept-form o r f g e h k = is_true (keeps_form f.form g.form) (subst (λ a. IsTrue (keeps a (Some g))) e (subst (λ a. IsTrue (keeps o a)) h k))
    where
      is_true : (b : Bool) → IsTrue b → b ≡ true
      is_true true t = refl
      is_true false t = absurd cc

  absolute-no_column : (q : ℕ) → q < length nodes → (g : Facts) → box_at nodes styles q ≡ Some g → is_absolute g.flow ≡ true → is_column g.form ≡ false
  absolute-no_column q lt g e = let n = there q lt in subst IsNoColumnWhereAbsolute (sym n.box ∙ e) (absolute-box q n.node n.style)

  child-form : (p : Form) (q : ℕ) → q < length nodes → (g : Facts) (vs : Trees) → box_at nodes styles q ≡ Some g → keeps_form p g.form ≡ true
      → keeps_form p (facts_of (as_child (tree g vs))).form ≡ true
  child-form p q lt g vs e h = by (is_absolute g.flow) refl
    where
      by : (b : Bool) → is_absolute g.flow ≡ b → keeps_form p (facts_of (if b then tree (anchor_facts g) (also (tree (as_own g) vs) no_trees) else tree g vs)).form ≡ true
      by true a = keep-anchor p g.form (absolute-no_column q lt g e a) h
      by false a = h

  has-tree : (o : Option Facts) (cs : List Tree) (g : Facts) → o ≡ Some g → box_with o cs ≡ Some (tree g (trees_of cs))
  has-tree o cs g e = ap (λ r. box_with r cs) e

  -- from a node to its parent
  to-parent : (q : ℕ) → 0 < q → q < length nodes → (g : Facts) → box_at nodes styles q ≡ Some g → IsTrue (keeps (box_at nodes styles (parent_of nodes q)) (box_at nodes styles q)) → Shown q → Inside (parent_of nodes q)
  to-parent q positive lt g e kept shown f us at =
      let j : ℕ = parent_of nodes q in
      let before = is_tree.before q positive (let l = length-parents nodes in omega (arith, lt, l)) in
      let n = there q lt in
      let children = children_of as_child q (forest nodes styles is_tree same (q + 1)) in
      let mine : tree_at nodes styles q ≡ Some (tree g (trees_of children)) = tree-is nodes styles is_tree same q n ∙ has-tree (node_box q n.node n.style) children g (sym n.box ∙ e) in
      let up = tree-there j (omega (arith, before, lt)) f us at in
      let child = as_child (tree g (trees_of children)) in
      let member : InTrees child us = subst (InTrees child) up.children (in-trees child (children_of as_child j (forest nodes styles is_tree same (j + 1))) (is-child nodes styles is_tree same q (tree g (trees_of children)) positive lt mine)) in
      let form = child-form f.form q lt g (trees_of children) e (kept-form (box_at nodes styles j) (box_at nodes styles q) f g up.box e kept) in
      let a = member-kept id f.form child us form member in
      let b = relevant_keeps id f (all_remade (in_box relevant) us) in
      let c = shown (tree g (trees_of children)) mine in
      omega (arith, a, b, c)

  -- an open box of an element shows what it holds inside
  no-text : (j : ℕ) → j < length nodes → is_element_at nodes j ≡ true → (f : Facts) → box_at nodes styles j ≡ Some f → is_text f.form ≡ false
  no-text j lt element f e =
      let n = there j lt in
      subst IsNoTextBox (sym n.box ∙ e) (element-box j n.node n.style (element-there nodes j n.node n.get element))

  open-shows : (j : ℕ) → j < length nodes → is_element_at nodes j ≡ true → is_marked (box_at nodes styles j) ≡ false → Inside j → Shown j
  open-shows j lt element unshut inside (tree f us) at = by (is_absolute f.flow) refl
    where
      box : box_at nodes styles j ≡ Some f
      box = (tree-there j lt f us at).box

      unmarked : f.inner ≡ false
      unmarked = ap is_marked (sym box) ∙ unshut

      is : IsBoxOf j (there j lt).node f
      is = let n = there j lt in subst (IsNodeBox j n.node) (sym n.box ∙ box) (is-node_box j n.node n.style)

      text : is_text f.form ≡ false
      text = no-text j lt element f box

      never : (b : Bool) → b ≡ true → b ≡ false → ⊥
      never true e h = cc
      never false e h = cc

      by : (b : Bool) → is_absolute f.flow ≡ b → 1 ≤ sum_held id (remade (in_box relevant) (if b then tree (anchor_facts f) (also (tree (as_own f) us) no_trees) else tree f us))
      by true a = absurd (never f.inner (is.inner a) unmarked)
      by false a =
          let h = inside f us at in
          let s = sum_is id (relevant f (all_remade (in_box relevant) us)) in
          rw (unmarked, text) (omega (arith, h, s))

  -- a context's own box or anchor is shown
  context-shows : (k : ℕ) → 0 < k → k < length nodes → slice_index (ids_of nodes) k ≡ id → is_marked (box_at nodes styles k) ≡ true → Shown k
  context-shows k positive lt named marked (tree f us) at = by (is_absolute f.flow) refl
    where
      n : NodeAt nodes styles is_tree same k
      n = there k lt

      box : box_at nodes styles k ≡ Some f
      box = (tree-there k lt f us at).box

      inner : f.inner ≡ true
      inner = ap is_marked (sym box) ∙ marked

      is : IsBoxOf k (there k lt).node f
      is = subst (IsNodeBox k (there k lt).node) (sym (there k lt).box ∙ box) (is-node_box k (there k lt).node (there k lt).style)

      text : is_text f.form ≡ false
      text = subst IsNoTextWhereInner (sym (there k lt).box ∙ box) (inner-box k (there k lt).node (there k lt).style positive) inner

      equal : (f.node.0 == id) ≡ true
      equal = let e : f.node.0 ≡ id = ap (λ (i : _). i.0) is.node ∙ ((there k lt).id ∙ named) in rw e (self id)
        where
          self : (m : ℕ) → (m == m) ≡ true
          self m = grind (arith)

      by : (b : Bool) → is_absolute f.flow ≡ b → 1 ≤ sum_held id (remade (in_box relevant) (if b then tree (anchor_facts f) (also (tree (as_own f) us) no_trees) else tree f us))
      by true a = rw equal (omega arith)
      by false a = let i = is.context inner in rw (inner, i, text, equal) (omega arith)

  -- Up to the context around.
  abbrev Generates : ℕ → Type 0
  Generates k = GeneratesBox nodes styles k

  has : (q : ℕ) → 0 < q → Generates q → (g : Facts) × (box_at nodes styles q ≡ Some g)
  has q positive made = by (box_at nodes styles q) refl (kept_by nodes styles q made positive)
    where
      by : (o : Option Facts) → box_at nodes styles q ≡ o → IsTrue (keeps (box_at nodes styles (slice_index (parents_of nodes) q)) o) → (g : Facts) × (box_at nodes styles q ≡ Some g)
      by None e h = absurd (none (box_at nodes styles (slice_index (parents_of nodes) q)) h)
        where
          none : (p : Option Facts) → IsTrue (keeps p None) → ⊥
          none None t = absurd cc
          none (Some p) t = absurd cc
      by (Some g) e h = (g, e)

  climb : (q a : ℕ) → IsAround nodes styles q a → q < length nodes → Generates q → Shown q → Inside a
  climb q a (parent r positive marked) lt made shown =
      let g = has r positive made in
      to-parent r positive lt g.0 g.1 (kept_by nodes styles r made positive) shown
  climb q a (further r b positive unshut above) lt made shown =
      let g = has r positive made in
      let before = is_tree.before r positive (let l = length-parents nodes in omega (arith, lt, l)) in
      let j : ℕ = parent_of nodes r in
      climb j b above (omega (arith, before, lt)) (parent_generates nodes styles r made positive)
      (open-shows j (omega (arith, before, lt)) (elements r positive lt) unshut (to-parent r positive lt g.0 g.1 (kept_by nodes styles r made positive) shown))

  -- an element whose tree holds it inside has it among its boxes
  pub generated-inside : (a : ℕ) → a < length nodes → is_element_at nodes a ≡ true → (f : Facts) (us : Trees) → tree_at nodes styles a ≡ Some (tree f us) → Inside a → 1 ≤ sum_held id (whole nodes styles a)
  generated-inside a lt element f us at inside =
      let text = no-text a lt element f (tree-there a lt f us at).box in
      let h = inside f us at in
      let s = sum_is id (relevant f (all_remade (in_box relevant) us)) in
      let g = generated_holds id (remade (in_box relevant) (tree (as_own f) us)) in
      let start : 1 ≤ sum_held id (remade (in_box relevant) (tree (as_own f) us)) = rw text (omega (arith, h, s)) in
      subst (λ o. 1 ≤ sum_held id (generated_of o)) (sym at) (omega (arith, g, start))

  pub reached : (k a : ℕ) → 0 < k → k < length nodes → slice_index (ids_of nodes) k ≡ id → is_marked (box_at nodes styles k) ≡ true → Generates k → IsAround nodes styles k a → Inside a
  reached k a positive lt named marked made around = climb k a around lt made (context-shows k positive lt named marked)
