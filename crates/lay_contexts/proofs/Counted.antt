-- How many boxes of the context of a node stand among the boxes of another context.
use Rattle.std.proofs.Common.{◌≡◌, ℕ, zero, suc, ◌+◌, ◌<◌, ◌≤◌, ◌==◌, Bool, true, false, ◌&&◌, ◌||◌, not, List, [], ◌∷◌, ◌++◌, length, drop, refl, ap, sym, subst, ◌∙◌, arith, if◌then◌else◌, Option, None, Some, option_map, slice_index, slice_index_or}
use Rattle.std.proofs.lemmas.Bool.{eqb-true}
use Rattle.lay_style.specs.declared.style.Style.{Style}
use Rattle.lay_doc.specs.declared.node.Node.{Node}
use Rattle.lay_doc.specs.Document.{ids_of}
use Rattle.lay_box_tree.specs.BoxColumns.{box_ids, box_inner}
use Rattle.lay_boxgen.specs.Boxes.{Tree, Trees, tree, no_trees, also, trees_of, facts_of}
use Rattle.lay_boxgen.specs.CutTrees.{cut_own, cut_tree_at, generated_cut}
use Rattle.lay_boxgen.specs.Forms.{is_absolute, is_inline, is_text}
use Rattle.lay_boxgen.specs.InnerBoxes.{AllBoxes, AllIn, AllOf}
use Rattle.lay_boxgen.specs.Listing.{all_listed, listed, listed_part}
use Rattle.lay_boxgen.specs.NodeBoxes.{node_box}
use Rattle.lay_boxgen.specs.NodeTrees.{anchor_facts, and_child, as_child, as_own, box_with, children_of, first_tree, node_trees, others_than_children, tree_at}
use Rattle.lay_boxgen.specs.Parts.{all_put, is_closed, nothing, part, put, put_list, whole}
use Rattle.lay_box_tree.specs.declared.box_tree.BoxNode.{BoxNode}
use Rattle.lay_boxgen.specs.declared.facts.Facts.{Facts}
use Rattle.lay_boxgen.specs.declared.node_trees.NodeTree.{NodeTree}
use Rattle.lay_contexts.proofs.Cited.{is-node_box, IsNodeBox, part-cut, sum_is, sum_with, total, totals}
use Rattle.lay_contexts.proofs.Kept.{all_held, held, inside_of, mark, one_if, sum_held}
use Rattle.lay_contexts.proofs.KeptOnce.{closed, generated_less}

module _ (id : ℕ) where
  -- in a list of boxes
  abbrev is_it : BoxNode → Bool
  is_it b = b.inner && (b.node.0 == id)

  abbrev pub count : List BoxNode → ℕ
  count [] = 0
  count (b ∷ bs) = one_if (is_it b) + count bs

  abbrev pub IsThere : List BoxNode → ℕ → Type 0
  IsThere bs i = (slice_index_or (box_inner bs) i false ≡ true) × (slice_index (box_ids bs) i ≡ id)

  self : (m : ℕ) → (m == m) ≡ true
  self m = grind (arith)

  here : (b : BoxNode) → b.inner ≡ true → b.node.0 ≡ id → one_if (is_it b) ≡ 1
  here b i e = rw (i, e) (rw (self id) refl)

  pub one : (bs : List BoxNode) (i : ℕ) → IsThere bs i → 1 ≤ count bs
  one [] i h = absurd (let e = h.0 in cc)
  one (b ∷ bs) zero h = let e = here b h.0 h.1 in omega (arith, e)
  one (b ∷ bs) (suc i) h = let r = one bs i h in omega (arith, r)

  pub two : (bs : List BoxNode) (i j : ℕ) → i < j → IsThere bs i → IsThere bs j → 2 ≤ count bs
  two [] i j lt h g = absurd (let e = h.0 in cc)
  two (b ∷ bs) zero zero lt h g = absurd (omega (arith, lt))
  two (b ∷ bs) zero (suc j) lt h g = let e = here b h.0 h.1 in let r = one bs j g in omega (arith, e, r)
  two (b ∷ bs) (suc i) zero lt h g = absurd (omega (arith, lt))
  two (b ∷ bs) (suc i) (suc j) lt h g = let r = two bs i j (omega (arith, lt)) h g in omega (arith, r)

  pub find : (bs : List BoxNode) → 1 ≤ count bs → (i : ℕ) × (i < length bs) × IsThere bs i
  find [] h = absurd (omega (arith, h))
  find (b ∷ bs) h = by b.inner refl (b.node.0 == id) refl (find bs)
    where
      later : (i : ℕ) × (i < length bs) × IsThere bs i → (i : ℕ) × (i < length (b ∷ bs)) × IsThere (b ∷ bs) i
      later r = (suc r.0, (let lt = r.1 in omega (arith, lt)), r.2)

      by : (x : Bool) → b.inner ≡ x → (y : Bool) → (b.node.0 == id) ≡ y → (1 ≤ count bs → (i : ℕ) × (i < length bs) × IsThere bs i)
          → (i : ℕ) × (i < length (b ∷ bs)) × IsThere (b ∷ bs) i
      by true e true g rest = (0, omega arith, (e, eqb-true b.node.0 id g))
      by true e false g rest = later (rest (let n : count (b ∷ bs) ≡ count bs = rw (e, g) (omega arith) in omega (arith, h, n)))
      by false e y g rest = later (rest (let n : count (b ∷ bs) ≡ count bs = rw e (omega arith) in omega (arith, h, n)))

  count-append : (xs ys : List BoxNode) → count (xs ++ ys) ≡ count xs + count ys
  count-append [] ys = omega arith
  count-append (x ∷ xs) ys = let e = count-append xs ys in omega (arith, e)

  -- in a list of ids
  abbrev named : List ℕ → ℕ
  named [] = 0
  named (x ∷ xs) = one_if (x == id) + named xs

  -- in trees
  abbrev inner_mark : Facts → Trees → ℕ
  inner_mark f us = one_if (f.inner && (f.node.0 == id))

  module _ (nodes : List Node) (styles : List Style) where
    mutual
      listed-count : (above : Facts) (parent at : ℕ) (t : Tree) → count (listed nodes styles above parent at t) ≡ total inner_mark t
      listed-count above parent at (tree f us) = let e = all-listed-count f at (at + 1) us in omega (arith, e)

      all-listed-count : (above : Facts) (parent at : ℕ) (us : Trees) → count (all_listed nodes styles above parent at us) ≡ totals inner_mark us
      all-listed-count above parent at no_trees = refl
      all-listed-count above parent at (also t ts) =
          let e = listed-count above parent at t in
          let r = all-listed-count above parent (at + length (listed nodes styles above parent at t)) ts in
          let a = count-append (listed nodes styles above parent at t) (all_listed nodes styles above parent (at + length (listed nodes styles above parent at t)) ts) in
          omega (arith, e, r, a)

    part-count : (ts : List Tree) → count (listed_part nodes styles ts) ≡ totals inner_mark (trees_of ts)
    part-count [] = refl
    part-count (t ∷ ts) = all-listed-count (facts_of t) 0 0 (trees_of (t ∷ ts))

    -- At least those that are held are listed.
    mark-less : (f : Facts) → mark id f ≤ one_if (f.inner && (f.node.0 == id))
    mark-less f = by f.inner (is_inline f.form || is_text f.form) (f.node.0 == id)
      where
        by : (i l e : Bool) → one_if (i && not l && e) ≤ one_if (i && e)
        by true true true = omega arith
        by true true false = omega arith
        by true false true = omega arith
        by true false false = omega arith
        by false l e = omega arith

    inside-less : (f : Facts) (us : Trees) → all_held id us ≤ totals inner_mark (all_put nothing us)
        → inside_of f (all_held id us) ≤ totals inner_mark (if is_closed f then no_trees else all_put nothing us)
    inside-less f us h = by (is_closed f) (is_text f.form)
      where
        by : (c t : Bool) → (if c || t then 0 else all_held id us) ≤ totals inner_mark (if c then no_trees else all_put nothing us)
        by true t = omega arith
        by false true = omega arith
        by false false = h

    mutual
      held-less : (t : Tree) → held id t ≤ total inner_mark (put nothing t)
      held-less (tree f us) = let m = mark-less f in let i = inside-less f us (all-held-less us) in omega (arith, m, i)

      all-held-less : (us : Trees) → all_held id us ≤ totals inner_mark (all_put nothing us)
      all-held-less no_trees = omega arith
      all-held-less (also t ts) = let h = held-less t in let g = all-held-less ts in omega (arith, h, g)

    list-held-less : (ts : List Tree) → sum_held id ts ≤ totals inner_mark (trees_of (put_list nothing ts))
    list-held-less [] = omega arith
    list-held-less (t ∷ ts) = let h = held-less t in let g = list-held-less ts in omega (arith, h, g)

    pub least : (a : ℕ) → sum_held id (whole nodes styles a) ≤ count (listed_part nodes styles (part nodes styles a))
    least a = let h = list-held-less (whole nodes styles a) in let e = part-count (part nodes styles a) in omega (arith, h, e)

    -- At most those are listed that stand in the tree of the context's node.
    module _ (P : Facts → Type 0) (no_inline : (f : Facts) → P f → f.inner ≡ true → is_inline f.form ≡ false) where
      closed-mark : (f : Facts) (us vs : Trees) → P f → inner_mark f us ≤ closed id f vs
      closed-mark f us vs p = by f.inner refl
        where
          by : (i : Bool) → f.inner ≡ i → one_if (i && (f.node.0 == id)) ≤ one_if ((i && not (is_inline f.form)) && (f.node.0 == id))
          by true e = let n = no_inline f p e in rw n (omega arith)
          by false e = omega arith

      put-by : (b : Bool) (us vs : Trees) → totals inner_mark us ≤ totals (closed id) vs → totals inner_mark (if b then no_trees else us) ≤ totals (closed id) vs
      put-by true us vs h = omega arith
      put-by false us vs h = h

      mutual
        put-less : (t : Tree) → AllBoxes P t → total inner_mark (put nothing t) ≤ total (closed id) t
        put-less (tree f us) h =
            let m = closed-mark f us us h.0 in
            let i = put-by (is_closed f) (all_put nothing us) us (all-put-less us h.1) in
            omega (arith, m, i)

        all-put-less : (us : Trees) → AllIn P us → totals inner_mark (all_put nothing us) ≤ totals (closed id) us
        all-put-less no_trees h = omega arith
        all-put-less (also t ts) h = let a = put-less t h.0 in let b = all-put-less ts h.1 in omega (arith, a, b)

      list-put-less : (ts : List Tree) → AllOf P ts → totals inner_mark (trees_of (put_list nothing ts)) ≤ totals (closed id) (trees_of ts)
      list-put-less [] h = omega arith
      list-put-less (t ∷ ts) h = let a = put-less t h.0 in let b = list-put-less ts h.1 in omega (arith, a, b)

    cut-by : (b : Bool) (us : Trees) (n : ℕ) → totals (closed id) us ≤ n → totals (closed id) (if b then no_trees else us) ≤ n
    cut-by true us n h = omega arith
    cut-by false us n h = h

    mutual
      cut-less : (t : Tree) → total (closed id) (put nothing t) ≤ total (closed id) t
      cut-less (tree f us) = let h = cut-by (is_closed f) (all_put nothing us) (totals (closed id) us) (all-cut-less us) in omega (arith, h)

      all-cut-less : (us : Trees) → totals (closed id) (all_put nothing us) ≤ totals (closed id) us
      all-cut-less no_trees = omega arith
      all-cut-less (also t ts) = let h = cut-less t in let g = all-cut-less ts in omega (arith, h, g)

    -- a node's tree, with the node itself
    abbrev weight : Option Tree → ℕ
    weight None = 0
    weight (Some (tree f us)) = one_if (f.node.0 == id) + totals (closed id) us

    abbrev weights : List NodeTree → ℕ
    weights [] = 0
    weights (n ∷ ns) = weight n.tree + weights ns

    child-less : (f : Facts) (us : Trees) → total (closed id) (as_child (tree f us)) ≤ one_if (f.node.0 == id) + totals (closed id) us
    child-less f us = by (is_absolute f.flow)
      where
        own : (c e : Bool) → one_if (c && e) ≤ one_if e
        own true e = omega arith
        own false true = omega arith
        own false false = omega arith

        by : (b : Bool) → total (closed id) (if b then tree (anchor_facts f) (also (tree (as_own f) us) no_trees) else tree f us) ≤ one_if (f.node.0 == id) + totals (closed id) us
        by true = omega arith
        by false = let o = own (is_closed f) (f.node.0 == id) in omega (arith, o)

    and-less : (o : Option Tree) (ts : List Tree) → sum_with (closed id) 0 (and_child as_child o ts) ≤ weight o + sum_with (closed id) 0 ts
    and-less None ts = omega arith
    and-less (Some (tree f us)) ts = let h = child-less f us in omega (arith, h)

    children-by : (n : NodeTree) (ns ms : List NodeTree) (ts : List Tree) → sum_with (closed id) 0 ts + weights ms ≤ weights ns → (b : Bool)
        → sum_with (closed id) 0 (if b then and_child as_child n.tree ts else []) + weights (if b then ms else n ∷ ns) ≤ weights (n ∷ ns)
    children-by n ns ms ts h true = let a = and-less n.tree ts in omega (arith, a, h)
    children-by n ns ms ts h false = omega arith

    children-less : (k : ℕ) (ns : List NodeTree) → sum_with (closed id) 0 (children_of as_child k ns) + weights (others_than_children k ns) ≤ weights ns
    children-less k [] = omega arith
    children-less k (n ∷ ns) = children-by n ns (others_than_children k ns) (children_of as_child k ns) (children-less k ns) (n.parent == k)

    boxed-less : (k : ℕ) (n : Node) (o : Option Facts) (ts : List Tree) → IsNodeBox k n o → weight (box_with o ts) ≤ one_if (n.id.0 == id) + sum_with (closed id) 0 ts
    boxed-less k n None ts b = omega arith
    boxed-less k n (Some f) ts b =
        let e = sum_is (closed id) ts in
        let m : one_if (f.node.0 == id) ≡ one_if (n.id.0 == id) = ap (λ (i : _). one_if (i.0 == id)) b.node in
        omega (arith, e, m)

    nodes-less : (k : ℕ) (ns : List Node) (ss : List Style) → weights (node_trees as_child k ns ss) ≤ named (ids_of ns)
    nodes-less k [] ss = omega arith
    nodes-less k (n ∷ ns) [] = omega arith
    nodes-less k (n ∷ ns) (s ∷ ss) =
        let after : List NodeTree = node_trees as_child (k + 1) ns ss in
        let h = nodes-less (k + 1) ns ss in
        let c = children-less k after in
        let b = boxed-less k n (node_box k n s) (children_of as_child k after) (is-node_box k n s) in
        omega (arith, h, c, b)

    first-less : (ns : List NodeTree) → weight (first_tree ns) ≤ weights ns
    first-less [] = omega arith
    first-less (n ∷ ns) = omega arith

    named-drop : (k : ℕ) (ns : List Node) → named (ids_of (drop k ns)) ≤ named (ids_of ns)
    named-drop zero ns = omega arith
    named-drop (suc k) [] = omega arith
    named-drop (suc k) (n ∷ ns) = let h = named-drop k ns in omega (arith, h)

    generated-by : (o : Option Tree) (n : ℕ) → weight o ≤ n → totals (closed id) (trees_of (generated_cut (option_map cut_own o))) ≤ n
    generated-by None n h = omega arith
    generated-by (Some (tree f us)) n h =
        let g = generated_less id (tree (as_own f) (all_put nothing us)) in
        let c = all-cut-less us in
        omega (arith, g, c, h)

    pub most : (a : ℕ) (P : Facts → Type 0) → ((f : Facts) → P f → f.inner ≡ true → is_inline f.form ≡ false) → AllOf P (generated_cut (cut_tree_at nodes styles a))
        → count (listed_part nodes styles (part nodes styles a)) ≤ named (ids_of nodes)
    most a P no_inline all =
        let gs = generated_cut (cut_tree_at nodes styles a) in
        let p = list-put-less P no_inline gs all in
        let e = part-count (put_list nothing gs) in
        let w = first-less (node_trees as_child a (drop a nodes) (drop a styles)) in
        let m = nodes-less a (drop a nodes) (drop a styles) in
        let d = named-drop a nodes in
        let g = generated-by (tree_at nodes styles a) (named (ids_of nodes)) (omega (arith, w, m, d)) in
        subst (λ ts. count (listed_part nodes styles ts) ≤ named (ids_of nodes)) (part-cut (tree_at nodes styles a)) (omega (arith, p, e, g))

  -- ids differ
  none-named : (xs : List ℕ) → ((j : ℕ) → j < length xs → slice_index xs j ≡ id → ⊥) → named xs ≡ 0
  none-named [] h = refl
  none-named (x ∷ xs) h = by (x == id) refl (none-named xs (λ j lt. h (suc j) (omega (arith, lt))))
    where
      by : (b : Bool) → (x == id) ≡ b → named xs ≡ 0 → one_if b + named xs ≡ 0
      by true e r = absurd (h 0 (omega arith) (eqb-true x id e))
      by false e r = omega (arith, r)

  pub named-once : (xs : List ℕ) → ((j k : ℕ) → j < k → k < length xs → slice_index xs j ≡ slice_index xs k → ⊥) → named xs ≤ 1
  named-once [] h = omega arith
  named-once (x ∷ xs) h = by (x == id) refl (named-once xs (λ j k lt within. h (suc j) (suc k) (omega (arith, lt)) (omega (arith, within))))
    where
      by : (b : Bool) → (x == id) ≡ b → named xs ≤ 1 → one_if b + named xs ≤ 1
      by true e r = let z = none-named xs (λ j lt same. h 0 (suc j) (omega arith) (omega (arith, lt)) (eqb-true x id e ∙ sym same)) in omega (arith, z)
      by false e r = omega (arith, r)
