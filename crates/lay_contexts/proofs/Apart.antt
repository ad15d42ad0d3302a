-- A box of an inner context stands among the boxes of the nearest context above it, and of no other: the nodes between
-- are no contexts.
use Rattle.std.proofs.Common.{◌≡◌, ℕ, zero, suc, ◌+◌, ◌-◌, ◌<◌, ◌≤◌, ◌==◌, Bool, true, false, ◌&&◌, not, List, [], ◌∷◌, ◌++◌, length, drop, refl, ap, sym, subst, ◌∙◌, arith, if◌then◌else◌, Option, None, Some, option_map, slice_index, slice_index_or}
use Rattle.std.proofs.lemmas.Bool.{eqb-true}
use Rattle.std.proofs.lemmas.List.{drop_all}
use Rattle.lay_style.specs.declared.style.Style.{Style}
use Rattle.lay_doc.specs.declared.node.Node.{Node}
use Rattle.lay_doc.specs.Document.{ids_of, parents_of}
use Rattle.lay_doc.specs.Tree.{IsTree}
use Rattle.lay_box_tree.specs.BoxColumns.{box_ids, box_inner}
use Rattle.lay_boxgen.specs.Boxes.{Tree, Trees, tree, no_trees, also, trees_of, facts_of, remade, in_box}
use Rattle.lay_boxgen.specs.Contexts.{box_at, is_marked}
use Rattle.lay_boxgen.specs.CutTrees.{as_leaf, cut_own, cut_tree_at, generated_cut, cut_tree}
use Rattle.lay_boxgen.specs.Forms.{is_absolute, is_inline}
use Rattle.lay_boxgen.specs.InnerBoxes.{AllBoxes, AllIn, AllOf}
use Rattle.lay_boxgen.specs.Irrelevant.{relevant}
use Rattle.lay_boxgen.specs.Listing.{all_listed, listed, listed_part}
use Rattle.lay_boxgen.specs.NodeBoxes.{node_box}
use Rattle.lay_boxgen.specs.NodeTrees.{and_child, anchor_facts, as_own, box_with, children_of, first_tree, node_trees, others_than_children, tree_at}
use Rattle.lay_boxgen.specs.Parts.{all_put, is_closed, nothing, own_tree, part, put, put_list}
use Rattle.lay_box_tree.specs.declared.box_tree.BoxNode.{BoxNode}
use Rattle.lay_boxgen.specs.declared.facts.Facts.{Facts}
use Rattle.lay_boxgen.specs.declared.node_trees.NodeTree.{NodeTree}
use Rattle.lay_contexts.proofs.Cited.{every-generated, every-in_box, every-kept, every-relevant, every-remade, is-node_box, IsNodeBox, part-cut, tree-cut}
use Rattle.lay_contexts.specs.ContextTree.{parent_of}
use Rattle.lay_contexts.proofs.Members.{NodeAt, node-at}

module _ (nodes : List Node) (styles : List Style) where
  -- the node at k is below the one at a, and those between are no contexts
  pub data IsBelow : ℕ → ℕ → Type 0 where
    child : (k : ℕ) → 0 < k → IsBelow (parent_of nodes k) k
    deeper : (a k : ℕ) → 0 < k → is_marked (box_at nodes styles (parent_of nodes k)) ≡ false → IsBelow a (parent_of nodes k) → IsBelow a k

  extend : (q k : ℕ) → IsBelow q k → 0 < q → is_marked (box_at nodes styles q) ≡ false → IsBelow (parent_of nodes q) k
  extend q k (child j positive) above unshut = deeper (parent_of nodes (parent_of nodes j)) j positive unshut (child (parent_of nodes j) above)
  extend q k (deeper b j positive between below) above unshut = deeper (parent_of nodes b) j positive between (extend b (parent_of nodes j) below above unshut)

  -- a box of an inner context in the tree of the node at a is below it
  pub record IsInnerBelow (a : ℕ) (f : Facts) : Type 0 where
    pub within : f.place < length nodes
    pub node : f.node.0 ≡ slice_index (ids_of nodes) f.place
    pub no_inline : is_inline f.form ≡ false
    pub below : IsBelow a f.place

  abbrev pub Below : ℕ → Facts → Type 0
  Below a f = f.inner ≡ true → IsInnerBelow a f

  opened : (a : ℕ) (f : Facts) → f.inner ≡ false → Below a f
  opened a f h = λ e. cc

  -- Trees that are cut off at inner contexts: that of a node with this parent.
  record IsGrown (parent : ℕ) (f : Facts) (us : Trees) : Type 0 where
    here : box_at nodes styles f.place ≡ Some f
    parent_is : parent_of nodes f.place ≡ parent
    within : f.place < length nodes
    node : f.node.0 ≡ slice_index (ids_of nodes) f.place
    absolute : is_absolute f.flow ≡ true → f.inner ≡ true
    context : f.inner ≡ true → is_inline f.form ≡ false
    inside : AllIn (Below f.place) us

  abbrev IsGrownTree : ℕ → ℕ → Option Tree → Type 0
  IsGrownTree k parent None = Unit {0}
  IsGrownTree k parent (Some (tree f us)) = (k ≤ f.place) × IsGrown parent f us

  abbrev AllGrown : ℕ → List NodeTree → Type 0
  AllGrown k [] = Unit {0}
  AllGrown k (n ∷ ns) = IsGrownTree k n.parent n.tree × AllGrown k ns

  module _ (q k : ℕ) (link : parent_of nodes q ≡ k) (positive : 0 < q) (unmarked : is_marked (box_at nodes styles q) ≡ false) where
    mutual
      raise : (t : Tree) → AllBoxes (Below q) t → AllBoxes (Below k) t
      raise (tree f us) h = (
        λ inner. (let b = h.0 inner in record {
          within = b.within;
          node = b.node;
          no_inline = b.no_inline;
          below = subst (λ (p : ℕ). IsBelow p f.place) link (extend q f.place b.below positive unmarked);
        }),
        raise-all us h.1,
      )

      raise-all : (us : Trees) → AllIn (Below q) us → AllIn (Below k) us
      raise-all no_trees h = tt
      raise-all (also t ts) h = (raise t h.0, raise-all ts h.1)

  module _ (k : ℕ) (c : Facts) (vs : Trees) (after : k < c.place) (g : IsGrown k c vs) where
    beneath : IsBelow k c.place
    beneath = subst (λ (p : ℕ). IsBelow p c.place) g.parent_is (child c.place (omega (arith, after)))

    named : c.inner ≡ true → IsInnerBelow k c
    named inner = record { within = g.within; node = g.node; no_inline = g.context inner; below = beneath }

    unmarked : is_closed c ≡ false → is_marked (box_at nodes styles c.place) ≡ false
    unmarked e = ap is_marked g.here ∙ by c.inner refl
      where
        never : (b l : Bool) → b ≡ true → l ≡ false → (b && not l) ≡ false → ⊥
        never true true h z e = cc
        never true false h z e = cc
        never false l h z e = cc

        by : (b : Bool) → c.inner ≡ b → c.inner ≡ false
        by true h = absurd (never c.inner (is_inline c.form) h (g.context h) e)
        by false h = h

    leaf : AllBoxes (Below k) (as_leaf (tree c vs))
    leaf = by (is_absolute c.flow) refl (is_closed c) refl
      where
        by : (a : Bool) → is_absolute c.flow ≡ a → (b : Bool) → is_closed c ≡ b
            → AllBoxes (Below k) (if a then tree (anchor_facts c) no_trees else (if b then tree c no_trees else tree c vs))
        by true a b e = (λ inner. record { within = g.within; node = g.node; no_inline = refl; below = beneath }, tt)
        by false a true e = (named, tt)
        by false a false e = (named, raise-all c.place k g.parent_is (omega (arith, after)) (unmarked e) vs g.inside)

  and-below : (k parent : ℕ) (o : Option Tree) → parent ≡ k → IsGrownTree (k + 1) parent o → (ts : List Tree) → AllIn (Below k) (trees_of ts) → AllIn (Below k) (trees_of (and_child as_leaf o ts))
  and-below k parent None e g ts h = h
  and-below k parent (Some (tree c vs)) e g ts h =
      (leaf k c vs (let lt = g.0 in omega (arith, lt)) (subst (λ (p : ℕ). IsGrown p c vs) e g.1), h)

  children_by : (k : ℕ) (n : NodeTree) (ts : List Tree) → IsGrownTree (k + 1) n.parent n.tree → AllIn (Below k) (trees_of ts) → (b : Bool) → (n.parent == k) ≡ b
      → AllIn (Below k) (trees_of (if b then and_child as_leaf n.tree ts else []))
  children_by k n ts g h true e = and-below k n.parent n.tree (eqb-true n.parent k e) g ts h
  children_by k n ts g h false e = tt

  children-below : (k : ℕ) (ns : List NodeTree) → AllGrown (k + 1) ns → AllIn (Below k) (trees_of (children_of as_leaf k ns))
  children-below k [] g = tt
  children-below k (n ∷ ns) g = children_by k n (children_of as_leaf k ns) g.0 (children-below k ns g.1) (n.parent == k) refl

  weaker_tree : (k parent : ℕ) (o : Option Tree) → IsGrownTree (k + 1) parent o → IsGrownTree k parent o
  weaker_tree k parent None g = tt
  weaker_tree k parent (Some (tree f us)) g = ((let le = g.0 in omega (arith, le)), g.1)

  weaker : (k : ℕ) (ns : List NodeTree) → AllGrown (k + 1) ns → AllGrown k ns
  weaker k [] g = tt
  weaker k (n ∷ ns) g = (weaker_tree k n.parent n.tree g.0, weaker k ns g.1)

  others_by : (k : ℕ) (n : NodeTree) (ns ms : List NodeTree) → AllGrown k ms → AllGrown k (n ∷ ns) → (b : Bool) → AllGrown k (if b then ms else n ∷ ns)
  others_by k n ns ms h g true = h
  others_by k n ns ms h g false = g

  others-grown : (k m : ℕ) (ns : List NodeTree) → AllGrown m ns → AllGrown m (others_than_children k ns)
  others-grown k m [] g = tt
  others-grown k m (n ∷ ns) g = others_by m n ns (others_than_children k ns) (others-grown k m ns g.1) g (n.parent == k)

  module _ (is_tree : IsTree (parents_of nodes)) (same : length styles ≡ length nodes) where
    leaves : ℕ → List NodeTree
    leaves m = node_trees as_leaf m (drop m nodes) (drop m styles)

    box-grown : (k : ℕ) → k < length nodes → (n : NodeAt nodes styles is_tree same k) (o : Option Facts) (cs : List Tree) → IsNodeBox k n.node o → box_at nodes styles k ≡ o → AllIn (Below k) (trees_of cs)
        → IsGrownTree k n.node.parent (box_with o cs)
    box-grown k lt n None cs b e h = tt
    box-grown k lt n (Some f) cs b e h = (
      (let p = b.place in omega (arith, p)),
      record {
        here = ap (box_at nodes styles) b.place ∙ e;
        parent_is = ap (parent_of nodes) b.place ∙ sym n.parent;
        within = (let p = b.place in omega (arith, p, lt));
        node = ap (λ (i : _). i.0) b.node ∙ (n.id ∙ ap (slice_index (ids_of nodes)) (sym b.place));
        absolute = b.inner;
        context = b.context;
        inside = subst (λ (p : ℕ). AllIn (Below p) (trees_of cs)) (sym b.place) h;
      },
    )

    all-grown : (d m : ℕ) → m + d ≡ length nodes → AllGrown m (leaves m)
    unfolding leaves
    all-grown zero m e =
        let none : drop m nodes ≡ [] = drop_all m nodes (omega (arith, e)) in
        subst (λ r. AllGrown m (node_trees as_leaf m r (drop m styles))) (sym none) tt
    all-grown (suc d) m e =
        let n = node-at nodes styles is_tree same m (omega (arith, e)) in
        let rest = all-grown d (m + 1) (omega (arith, e)) in
        let is : leaves m ≡ record { parent = n.node.parent; tree = box_with (node_box m n.node n.style) (children_of as_leaf m (leaves (m + 1))) } ∷ others_than_children m (leaves (m + 1)) =
        ap (λ r. node_trees as_leaf m r (drop m styles)) n.nodes_from ∙ ap (node_trees as_leaf m (n.node ∷ drop (m + 1) nodes)) n.styles_from in
        subst (AllGrown m) (sym is) (
          box-grown m (omega (arith, e)) n (node_box m n.node n.style) (children_of as_leaf m (leaves (m + 1))) (is-node_box m n.node n.style) n.box (children-below m (leaves (m + 1)) rest),
          others-grown m m (leaves (m + 1)) (weaker m (leaves (m + 1)) rest),
        )

    -- The boxes of a context.
    module _ (a : ℕ) (lt : a < length nodes) where
      all-relevant : (f : Facts) (ts : List Tree) → AllOf (Below a) ts → AllOf (Below a) (relevant f ts)
      all-relevant f ts h = every-relevant (Below a) (opened a) f ts (every-kept (Below a) (opened a) f.form ts h)

      generated_by : (o : Option Facts) (cs : List Tree) → AllIn (Below a) (trees_of cs) → AllOf (Below a) (generated_cut (option_map own_tree (box_with o cs)))
      generated_by None cs h = tt
      generated_by (Some f) cs h =
          every-generated (Below a) (opened a) (remade (in_box relevant) (tree (as_own f) (trees_of cs)))
          (every-remade (Below a) (opened a) (in_box relevant) (every-in_box (Below a) (opened a) relevant all-relevant) (tree (as_own f) (trees_of cs)) (opened a (as_own f) refl, h))

      own-cut : (o : Option Tree) → option_map own_tree (option_map cut_tree o) ≡ option_map cut_own o
      own-cut None = refl
      own-cut (Some t) = refl

      pub cut-below : AllOf (Below a) (generated_cut (cut_tree_at nodes styles a))
      unfolding leaves
      cut-below =
          let n = node-at nodes styles is_tree same a lt in
          let rest = all-grown (length nodes - (a + 1)) (a + 1) (omega (arith, lt)) in
          let cs = children_of as_leaf a (leaves (a + 1)) in
          let is : first_tree (leaves a) ≡ box_with (node_box a n.node n.style) cs =
          ap (λ r. first_tree (node_trees as_leaf a r (drop a styles))) n.nodes_from ∙ ap (λ r. first_tree (node_trees as_leaf a (n.node ∷ drop (a + 1) nodes) r)) n.styles_from in
          let whole_is : option_map own_tree (box_with (node_box a n.node n.style) cs) ≡ cut_tree_at nodes styles a =
          ap (option_map own_tree) (sym is ∙ tree-cut nodes styles a (drop a nodes) (drop a styles) refl) ∙ own-cut (tree_at nodes styles a) in
          subst (λ o. AllOf (Below a) (generated_cut o)) whole_is (generated_by (node_box a n.node n.style) cs (children-below a (leaves (a + 1)) rest))

      part_by : (b : Bool) (us : Trees) → AllIn (Below a) us → AllIn (Below a) (if b then no_trees else us)
      part_by true us h = tt
      part_by false us h = h

      mutual
        in-part : (t : Tree) → AllBoxes (Below a) t → AllBoxes (Below a) (put nothing t)
        in-part (tree f us) h = (h.0, part_by (is_closed f) (all_put nothing us) (all-in-part us h.1))

        all-in-part : (us : Trees) → AllIn (Below a) us → AllIn (Below a) (all_put nothing us)
        all-in-part no_trees h = tt
        all-in-part (also t ts) h = (in-part t h.0, all-in-part ts h.1)

      list-in-part : (ts : List Tree) → AllOf (Below a) ts → AllIn (Below a) (trees_of (put_list nothing ts))
      list-in-part [] h = tt
      list-in-part (t ∷ ts) h = (in-part t h.0, list-in-part ts h.1)

      -- what is known of a listed box
      abbrev Known : BoxNode → Type 0
      Known b = b.inner ≡ true → (x : ℕ) × (x < length nodes) × (b.node.0 ≡ slice_index (ids_of nodes) x) × IsBelow a x

      abbrev EachKnown : List BoxNode → Type 0
      EachKnown [] = Unit {0}
      EachKnown (b ∷ bs) = Known b × EachKnown bs

      known-append : (xs ys : List BoxNode) → EachKnown xs → EachKnown ys → EachKnown (xs ++ ys)
      known-append [] ys h g = g
      known-append (x ∷ xs) ys h g = (h.0, known-append xs ys h.1 g)

      mutual
        listed-known : (above : Facts) (parent at : ℕ) (t : Tree) → AllBoxes (Below a) t → EachKnown (listed nodes styles above parent at t)
        listed-known above parent at (tree f us) h =
            (λ inner. (let b = h.0 inner in (f.place, b.within, b.node, b.below)), all-listed-known f at (at + 1) us h.1)

        all-listed-known : (above : Facts) (parent at : ℕ) (us : Trees) → AllIn (Below a) us → EachKnown (all_listed nodes styles above parent at us)
        all-listed-known above parent at no_trees h = tt
        all-listed-known above parent at (also t ts) h =
            known-append (listed nodes styles above parent at t) (all_listed nodes styles above parent (at + length (listed nodes styles above parent at t)) ts)
            (listed-known above parent at t h.0) (all-listed-known above parent (at + length (listed nodes styles above parent at t)) ts h.1)

      part-known : (ts : List Tree) → AllIn (Below a) (trees_of ts) → EachKnown (listed_part nodes styles ts)
      part-known [] h = tt
      part-known (t ∷ ts) h = all-listed-known (facts_of t) 0 0 (trees_of (t ∷ ts)) h

      known-at : (bs : List BoxNode) → EachKnown bs → (i : ℕ) → slice_index_or (box_inner bs) i false ≡ true
          → (x : ℕ) × (x < length nodes) × (slice_index (box_ids bs) i ≡ slice_index (ids_of nodes) x) × IsBelow a x
      known-at [] h i e = cc
      known-at (b ∷ bs) h zero e = h.0 e
      known-at (b ∷ bs) h (suc i) e = known-at bs h.1 i e

      pub inner-below : (i : ℕ) → slice_index_or (box_inner (listed_part nodes styles (part nodes styles a))) i false ≡ true
          → (x : ℕ) × (x < length nodes) × (slice_index (box_ids (listed_part nodes styles (part nodes styles a))) i ≡ slice_index (ids_of nodes) x) × IsBelow a x
      inner-below i e =
          known-at (listed_part nodes styles (part nodes styles a))
          (part-known (part nodes styles a) (subst (λ ts. AllIn (Below a) (trees_of ts)) (part-cut (tree_at nodes styles a)) (list-in-part (generated_cut (cut_tree_at nodes styles a)) cut-below))) i e
