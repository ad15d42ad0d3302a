-- The boxes of inner contexts are those of contexts.
use Rattle.std.proofs.Common.{◌≡◌, ◌<◌, ◌≤◌, ℕ, zero, suc, ◌+◌, ◌==◌, Bool, true, false, ◌&&◌, ◌||◌, not, List, [], ◌∷◌, ◌++◌, refl, ap, sym, subst, ◌∙◌, if◌then◌else◌, Option, None, Some, drop, length, map, slice_index, slice_index_or, slice_get, IsTrue, arith}
use Rattle.lay_style.specs.declared.style.Style.{Style}
use Rattle.lay_style.specs.ComputedStyle.{style_at}
use Rattle.lay_style.specs.InitialStyle.{initial_style}
use Rattle.lay_doc.specs.declared.node.Node.{Node}
use Rattle.lay_doc.specs.Document.{ids_of, parents_of}
use Rattle.lay_boxgen.specs.Boxes.{Tree, Trees, tree, no_trees, also, trees_of, all_remade, remade, in_box}
use Rattle.lay_boxgen.specs.Contexts.{box_at, box_of_node, is_marked, keeps, keeps_form, GeneratesBox, below}
use Rattle.lay_boxgen.specs.Forms.{is_absolute, is_column, is_column_group}
use Rattle.lay_boxgen.specs.InnerBoxes.{AllBoxes, AllOf, NamesContext, IsInnerContext, InnerBoxesAreContexts}
use Rattle.lay_boxgen.specs.Irrelevant.{relevant}
use Rattle.lay_boxgen.specs.NodeBoxes.{node_box}
use Rattle.lay_boxgen.specs.NodeTrees.{as_own, anchor_facts, as_child, and_child, children_of, others_than_children, box_with, node_trees, first_tree, tree_at}
use Rattle.lay_boxgen.specs.Parts.{generated_of}
use Rattle.lay_boxgen.specs.declared.facts.Facts.{Facts}
use Rattle.lay_boxgen.specs.declared.facts.Form.{Form}
use Rattle.lay_boxgen.specs.declared.node_trees.NodeTree.{NodeTree}
use Rattle.lay_boxgen.proofs.EveryBox.{every-in, every-relevant, AllKept, every-generated}
use Rattle.lay_boxgen.proofs.NodeForms.{IsNodeBox, is-node_box}
use Rattle.lay_boxgen.proofs.Settled.{drop-next}

-- what stands at k in a list whose rest from there is known
get-drop : {X : Type 0} (k : ℕ) (xs : List X) (x : X) (ys : List X) → drop k xs ≡ x ∷ ys → slice_get xs k ≡ Some x
get-drop zero [] x ys h = cc
get-drop (suc k) [] x ys h = cc
get-drop zero (z ∷ zs) x ys h = ap first h
  where
    first : {X : Type 0} → List X → Option X
    first [] = None
    first (w ∷ ws) = Some w
get-drop (suc k) (z ∷ zs) x ys h = get-drop k zs x ys h

less-drop : {X : Type 0} (k : ℕ) (xs : List X) (x : X) (ys : List X) → drop k xs ≡ x ∷ ys → k < length xs
less-drop zero [] x ys h = cc
less-drop (suc k) [] x ys h = cc
less-drop zero (z ∷ zs) x ys h = omega arith
less-drop (suc k) (z ∷ zs) x ys h = omega (arith, less-drop k zs x ys h)

or-get : {X : Type 0} (k : ℕ) (xs : List X) (x d : X) → slice_get xs k ≡ Some x → slice_index_or xs k d ≡ x
or-get zero [] x d h = cc
or-get (suc k) [] x d h = cc
or-get zero (z ∷ zs) x d h = ap (unwrap z) h
  where
    unwrap : {X : Type 0} → X → Option X → X
    unwrap y None = y
    unwrap y (Some w) = w
or-get (suc k) (z ∷ zs) x d h = or-get k zs x d h

map-get : (g : Node → ℕ) (k : ℕ) (xs : List Node) (x : Node) → slice_get xs k ≡ Some x → slice_index (map g xs) k ≡ g x
map-get g zero [] x h = cc
map-get g (suc k) [] x h = cc
map-get g zero (z ∷ zs) x h = ap g (ap (unwrap z) h)
  where
    unwrap : Node → Option Node → Node
    unwrap y None = y
    unwrap y (Some w) = w
map-get g (suc k) (z ∷ zs) x h = map-get g k zs x h

-- a box that keeps an anchor is neither a column nor a column group, and keeps all
keeps-anchor : (p x : Form) (b c : Bool) → is_column p ≡ b → is_column_group p ≡ c → (not b && (not c || false)) ≡ true → keeps_form p x ≡ true
keeps-anchor p x true c e g h = cc
keeps-anchor p x false true e g h = cc
keeps-anchor p x false false e g h = simp (e, g) refl

module _ (nodes : List Node) (styles : List Style) (start : ℕ) where
  abbrev P : Facts → Type 0
  P f = IsInnerContext nodes styles start f

  opened : (f : Facts) → f.inner ≡ false → P f
  opened f h = λ e. cc

  -- the tree of a node with this parent
  pub record IsGrown (parent : ℕ) (f : Facts) (us : Trees) : Type 0 where
    pub here : box_at nodes styles f.place ≡ Some f
    pub parent_is : slice_index (parents_of nodes) f.place ≡ parent
    pub within : f.place < length nodes
    pub node : slice_index (ids_of nodes) f.place ≡ f.node.0
    pub inner : is_absolute f.flow ≡ true → f.inner ≡ true
    pub grown : GeneratesBox nodes styles f.place → AllOf P (relevant f (all_remade (in_box relevant) us))

  abbrev IsGrownTree : ℕ → ℕ → Option Tree → Type 0
  IsGrownTree k parent None = Unit {0}
  IsGrownTree k parent (Some (tree f us)) = (k ≤ f.place) × IsGrown parent f us

  abbrev AllGrown : ℕ → List NodeTree → Type 0
  AllGrown k [] = Unit {0}
  AllGrown k (n ∷ ns) = IsGrownTree k n.parent n.tree × AllGrown k ns

  module _ (k : ℕ) (up : Facts) (le : start ≤ k) (there : box_at nodes styles k ≡ Some up) (gen : GeneratesBox nodes styles k) where
    child-generates : (parent : ℕ) (c : Facts) (vs : Trees) → k < c.place → IsGrown parent c vs → parent ≡ k → keeps_form up.form c.form ≡ true → GeneratesBox nodes styles c.place
    child-generates parent c vs less g e kept =
        let link : slice_index (parents_of nodes) c.place ≡ k = g.parent_is ∙ e in
        below c.place (omega (arith, less))
        (subst (λ p. IsTrue (keeps (box_at nodes styles p) (box_at nodes styles c.place))) (sym link)
        (subst (λ o. IsTrue (keeps (box_at nodes styles k) o)) (sym g.here) (subst (λ o. IsTrue (keeps o (Some c))) (sym there) kept)))
        (subst (GeneratesBox nodes styles) (sym link) gen)

    names : (parent : ℕ) (c : Facts) (vs : Trees) → k < c.place → IsGrown parent c vs → c.inner ≡ true → GeneratesBox nodes styles c.place → NamesContext nodes styles start c
    names parent c vs less g i made = record {
      behind = omega (arith, less, le);
      within = g.within;
      node = g.node;
      context = record { establishes = subst (λ o. IsTrue (is_marked o)) (sym g.here) i; generates = made };
    }

    one-child : (parent : ℕ) (c : Facts) (vs : Trees) → k < c.place → IsGrown parent c vs → parent ≡ k → (b : Bool) → is_absolute c.flow ≡ b
        → AllKept P opened up.form (remade (in_box relevant) (if b then tree (anchor_facts c) (also (tree (as_own c) vs) no_trees) else tree c vs))
    one-child parent c vs less g e false a = (
      λ kept. (let made = child-generates parent c vs less g e kept in (
        λ inner. names parent c vs less g inner made,
        every-in P opened (relevant c (all_remade (in_box relevant) vs)) (g.grown made),
      )),
      tt,
    )
    one-child parent c vs less g e true a = (
      λ kept. (let made = child-generates parent c vs less g e (keeps-anchor up.form c.form (is_column up.form) (is_column_group up.form) refl refl kept) in
          let inside : AllBoxes P (tree (as_own c) (trees_of (relevant c (all_remade (in_box relevant) vs)))) = (opened (as_own c) refl, every-in P opened (relevant c (all_remade (in_box relevant) vs)) (g.grown made)) in
          let named = names parent c vs less g (g.inner a) made in (
            λ inner. record { behind = named.behind; within = named.within; node = named.node; context = named.context },
            every-in P opened (relevant (anchor_facts c) (tree (as_own c) (trees_of (relevant c (all_remade (in_box relevant) vs))) ∷ []))
                (every-relevant P opened (anchor_facts c) (tree (as_own c) (trees_of (relevant c (all_remade (in_box relevant) vs))) ∷ []) (λ x. inside, tt)),
          )),
      tt,
    )

    kept-append : (xs ys : List Tree) → AllKept P opened up.form xs → AllKept P opened up.form ys → AllKept P opened up.form (xs ++ ys)
    kept-append [] ys h g = g
    kept-append (x ∷ xs) ys h g = (h.0, kept-append xs ys h.1 g)

    and-kept : (n : NodeTree) (o : Option Tree) → IsGrownTree (k + 1) n.parent o → n.parent ≡ k → (ts : List Tree)
        → AllKept P opened up.form (all_remade (in_box relevant) (trees_of ts)) → AllKept P opened up.form (all_remade (in_box relevant) (trees_of (and_child as_child o ts)))
    and-kept n None g e ts h = h
    and-kept n (Some (tree c vs)) g e ts h =
        kept-append (remade (in_box relevant) (as_child (tree c vs))) (all_remade (in_box relevant) (trees_of ts))
        (one-child n.parent c vs (omega (arith, g.0)) g.1 e (is_absolute c.flow) refl) h

    children_by : (n : NodeTree) → IsGrownTree (k + 1) n.parent n.tree → (ts : List Tree) → AllKept P opened up.form (all_remade (in_box relevant) (trees_of ts))
        → (b : Bool) → (n.parent == k) ≡ b → AllKept P opened up.form (all_remade (in_box relevant) (trees_of (if b then and_child as_child n.tree ts else [])))
    children_by n g ts h true e = and-kept n n.tree g (grind (arith, e)) ts h
    children_by n g ts h false e = tt

    children-kept : (ns : List NodeTree) → AllGrown (k + 1) ns → AllKept P opened up.form (all_remade (in_box relevant) (trees_of (children_of as_child k ns)))
    children-kept [] g = tt
    children-kept (n ∷ ns) g = children_by n g.0 (children_of as_child k ns) (children-kept ns g.1) (n.parent == k) refl

  weaker_tree : (k parent : ℕ) (o : Option Tree) → IsGrownTree (k + 1) parent o → IsGrownTree k parent o
  weaker_tree k parent None g = tt
  weaker_tree k parent (Some (tree f us)) g = (omega (arith, g.0), g.1)

  weaker : (k : ℕ) (ns : List NodeTree) → AllGrown (k + 1) ns → AllGrown k ns
  weaker k [] g = tt
  weaker k (n ∷ ns) g = (weaker_tree k n.parent n.tree g.0, weaker k ns g.1)

  others_by : (k : ℕ) (n : NodeTree) (ns ms : List NodeTree) → AllGrown k ms → AllGrown k (n ∷ ns) → (b : Bool) → AllGrown k (if b then ms else n ∷ ns)
  others_by k n ns ms h g true = h
  others_by k n ns ms h g false = g

  others-grown : (k m : ℕ) (ns : List NodeTree) → AllGrown m ns → AllGrown m (others_than_children k ns)
  others-grown k m [] g = tt
  others-grown k m (n ∷ ns) g = others_by m n ns (others_than_children k ns) (others-grown k m ns g.1) g (n.parent == k)

  box-grown : (k : ℕ) (n : Node) (after : List NodeTree) (o : Option Facts) → start ≤ k → slice_get nodes k ≡ Some n → k < length nodes
      → IsNodeBox k n o → box_at nodes styles k ≡ o → AllGrown (k + 1) after
      → IsGrownTree k n.parent (box_with o (children_of as_child k after))
  box-grown k n after None le get less b e g = tt
  box-grown k n after (Some f) le get less b e g = (
    omega (arith, b.place),
    record {
      here = ap (box_at nodes styles) b.place ∙ e;
      parent_is = ap (slice_index (parents_of nodes)) b.place ∙ map-get (λ m. m.parent) k nodes n get;
      within = omega (arith, b.place, less);
      node = ap (slice_index (ids_of nodes)) b.place ∙ (map-get (λ m. m.id.0) k nodes n get ∙ ap (λ i. i.0) (sym b.node));
      inner = b.inner;
      grown = λ made. every-relevant P opened f (all_remade (in_box relevant) (trees_of (children_of as_child k after)))
          (children-kept k f le e (subst (GeneratesBox nodes styles) b.place made) after g);
    },
  )

  all-grown : (k : ℕ) (ns : List Node) (ss : List Style) → start ≤ k → drop k nodes ≡ ns → drop k styles ≡ ss → AllGrown k (node_trees as_child k ns ss)
  all-grown k [] ss le g h = tt
  all-grown k (n ∷ ns) [] le g h = tt
  all-grown k (n ∷ ns) (s ∷ ss) le g h =
      let after = node_trees as_child (k + 1) ns ss in
      let rest = all-grown (k + 1) ns ss (omega (arith, le)) (drop-next k nodes n ns g) (drop-next k styles s ss h) in
      let get = get-drop k nodes n ns g in
      let style = or-get k styles s initial_style (get-drop k styles s ss h) in
      let box : box_at nodes styles k ≡ node_box k n s = ap (λ o. box_of_node k o (style_at styles k)) get ∙ ap (node_box k n) style in (
        box-grown k n after (node_box k n s) le get (less-drop k nodes n ns g) (is-node_box k n s) box rest,
        others-grown k k after (weaker k after rest),
      )

first-grown : (nodes : List Node) (styles : List Style) (k : ℕ) (ns : List NodeTree) → AllGrown nodes styles k k ns → (o : Option Tree) → first_tree ns ≡ o
    → (f : Facts) (us : Trees) → o ≡ Some (tree f us) → (parent : ℕ) × IsGrown nodes styles k parent f us
first-grown nodes styles k [] g o h f us e = cc
first-grown nodes styles k (n ∷ ns) g o h f us e = (n.parent, (subst (IsGrownTree nodes styles k k n.parent) (h ∙ e) g.0).1)

abbrev facts_or : Facts → Option Tree → Facts
facts_or f None = f
facts_or f (Some (tree g us)) = g

place_by : (k : ℕ) (n : Node) (o : Option Facts) (cs : List Tree) → IsNodeBox k n o → (f : Facts) (us : Trees) → box_with o cs ≡ Some (tree f us) → f.place ≡ k
place_by k n None cs b f us e = cc
place_by k n (Some g) cs b f us e = ap (λ t. (facts_or g t).place) (sym e) ∙ b.place

place-at : (k : ℕ) (ns : List Node) (ss : List Style) (f : Facts) (us : Trees) → first_tree (node_trees as_child k ns ss) ≡ Some (tree f us) → f.place ≡ k
place-at k [] ss f us e = cc
place-at k (n ∷ ns) [] f us e = cc
place-at k (n ∷ ns) (s ∷ ss) f us e = place_by k n (node_box k n s) (children_of as_child k (node_trees as_child (k + 1) ns ss)) (is-node_box k n s) f us e

whole_by : (nodes : List Node) (styles : List Style) (k : ℕ) → GeneratesBox nodes styles k → (o : Option Tree) → tree_at nodes styles k ≡ o
    → AllOf (IsInnerContext nodes styles k) (generated_of o)
whole_by nodes styles k made None h = tt
whole_by nodes styles k made (Some (tree f us)) h =
    let all = all-grown nodes styles k k (drop k nodes) (drop k styles) (omega arith) refl refl in
    let mine = first-grown nodes styles k (node_trees as_child k (drop k nodes) (drop k styles)) all (Some (tree f us)) h f us refl in
    every-generated (IsInnerContext nodes styles k) (opened nodes styles k) (tree (as_own f) (trees_of (relevant f (all_remade (in_box relevant) us))) ∷ [])
    ((opened nodes styles k (as_own f) refl, every-in (IsInnerContext nodes styles k) (opened nodes styles k) (relevant f (all_remade (in_box relevant) us)) (mine.1.grown (subst (GeneratesBox nodes styles) (sym (place-at k (drop k nodes) (drop k styles) f us h)) made))), tt)

pub inner_boxes_are_contexts : InnerBoxesAreContexts
inner_boxes_are_contexts nodes styles k made = whole_by nodes styles k made (tree_at nodes styles k) refl
