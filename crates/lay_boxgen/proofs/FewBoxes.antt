-- A context has few boxes beside the document's nodes and its depth.
use Rattle.std.proofs.Common.{◌≡◌, ℕ, zero, suc, ◌+◌, ◌-◌, ◌*◌, ◌<◌, ◌≤◌, ◌==◌, Bool, true, false, List, [], ◌∷◌, length, drop, get_or, refl, ap, subst, arith, if◌then◌else◌, Option, None, Some, length-append}
use Rattle.std.proofs.lemmas.Bool.{eqb-true}
use Rattle.std.proofs.Math.Seq.{drop-cons}
use Rattle.std.proofs.lemmas.List.{drop_all, get_or-map}
use Rattle.lay_boxgen.proofs.Cited.{length-ids, place_within}
use Rattle.lay_style.specs.declared.style.Style.{Style}
use Rattle.lay_style.specs.Places.{place_of}
use Rattle.lay_doc.specs.declared.node.Node.{Node}
use Rattle.lay_doc.specs.Document.{Document, IsDocument, parents_of, depths_of, ids_of}
use Rattle.lay_boxgen.specs.Boxes.{Tree, Trees, tree, no_trees, also, trees_of}
use Rattle.lay_boxgen.specs.BoxBounds.{BoxesAreFew}
use Rattle.lay_boxgen.specs.Forms.{is_inline, is_absolute}
use Rattle.lay_boxgen.specs.Listing.{listed, all_listed, listed_part, boxes_at, boxes_of}
use Rattle.lay_boxgen.specs.NodeBoxes.{node_box}
use Rattle.lay_boxgen.specs.NodeTrees.{as_own, anchor_facts, as_child, and_child, children_of, others_than_children, box_with, node_trees, first_tree, tree_at}
use Rattle.lay_boxgen.specs.Parts.{is_closed, put, all_put, put_list, nothing, generated_of, whole, part}
use Rattle.lay_box_tree.specs.declared.box_tree.BoxNode.{BoxNode}
use Rattle.lay_boxgen.specs.declared.facts.Facts.{Facts}
use Rattle.lay_boxgen.specs.declared.node_trees.NodeTree.{NodeTree}
use Rattle.lay_boxgen.proofs.BoxMeasures.{total, totals, sum_with, sum_is}
use Rattle.lay_boxgen.proofs.BoxStages.{each, count, in_inline, under_inline, generated_total}

-- Inline boxes stand in each other so deep at most.
abbrev one_level : Facts → ℕ
one_level f = if is_inline f.form then 1 else 0

abbrev mutual
  Low : ℕ → Tree → Type 0
  Low n (tree f us) = (m : ℕ) × (n ≡ one_level f + m) × AllLow m us

  AllLow : ℕ → Trees → Type 0
  AllLow n no_trees = Unit {0}
  AllLow n (also t ts) = Low n t × AllLow n ts

mutual
  lower : (n k : ℕ) (t : Tree) → Low n t → Low (n + k) t
  lower n k (tree f us) h = (h.0 + k, omega (arith, h.1), all_lower h.0 k us h.2)

  all_lower : (n k : ℕ) (us : Trees) → AllLow n us → AllLow (n + k) us
  all_lower n k no_trees h = tt
  all_lower n k (also t ts) h = (lower n k t h.0, all_lower n k ts h.1)

-- children of inline boxes are fewer than boxes
in_by : (b : Bool) (c y n : ℕ) → c + y ≤ n → (if b then c else 0) + y ≤ n
in_by true c y n h = h
in_by false c y n h = omega (arith, h)

mutual
  in_few : (t : Tree) → 1 + total in_inline t ≤ total (each 1) t
  in_few (tree f us) = let h = in_by (is_inline f.form) (count us) (totals in_inline us) (totals (each 1) us) (all_in_few us) in omega (arith, h)

  all_in_few : (us : Trees) → count us + totals in_inline us ≤ totals (each 1) us
  all_in_few no_trees = omega arith
  all_in_few (also t ts) = let h = in_few t in let g = all_in_few ts in omega (arith, h, g)

mutual
  plus : (a b : ℕ) (t : Tree) → total (each (a + b)) t ≡ total (each a) t + total (each b) t
  plus a b (tree f us) = let h = all_plus a b us in omega (arith, h)

  all_plus : (a b : ℕ) (us : Trees) → totals (each (a + b)) us ≡ totals (each a) us + totals (each b) us
  all_plus a b no_trees = omega arith
  all_plus a b (also t ts) = let h = plus a b t in let g = all_plus a b ts in omega (arith, h, g)

under_by : (n m : ℕ) (us : Trees) (b : Bool) → n ≡ (if b then 1 else 0) + m → totals under_inline us ≤ totals (each m) us
    → (if b then count us + totals in_inline us else 0) + totals under_inline us ≤ n + totals (each n) us
under_by n m us true e h =
    let p = all_plus 1 m us in
    let f = all_in_few us in
    let q : totals (each n) us ≡ totals (each (1 + m)) us = ap (λ (k : ℕ). totals (each k) us) e in
    omega (arith, p, f, q, h)
under_by n m us false e h =
    let q : totals (each n) us ≡ totals (each m) us = ap (λ (k : ℕ). totals (each k) us) (let z : n ≡ m = omega (arith, e) in z) in
    omega (arith, q, h)

mutual
  under_few : (n : ℕ) (t : Tree) → Low n t → total under_inline t ≤ total (each n) t
  under_few n (tree f us) h = under_by n h.0 us (is_inline f.form) h.1 (all_under_few h.0 us h.2)

  all_under_few : (n : ℕ) (us : Trees) → AllLow n us → totals under_inline us ≤ totals (each n) us
  all_under_few n no_trees h = omega arith
  all_under_few n (also t ts) h = let a = under_few n t h.0 in let g = all_under_few n ts h.1 in omega (arith, a, g)

-- The trees of nodes have a box a node, and an anchor.
abbrev of_tree : ℕ → Option Tree → ℕ
of_tree u None = 0
of_tree u (Some t) = total (each u) t + u

abbrev of_trees : ℕ → List NodeTree → ℕ
of_trees u [] = 0
of_trees u (n ∷ ns) = of_tree u n.tree + of_trees u ns

child_by : (u : ℕ) (f : Facts) (us : Trees) (b : Bool) → total (each u) (if b then tree (anchor_facts f) (also (tree (as_own f) us) no_trees) else tree f us) ≤ u + totals (each u) us + u
child_by u f us true = omega arith
child_by u f us false = omega arith

and_by : (u : ℕ) (o : Option Tree) (ts : List Tree) → sum_with (each u) 0 (and_child as_child o ts) ≤ of_tree u o + sum_with (each u) 0 ts
and_by u None ts = omega arith
and_by u (Some (tree f us)) ts = let h = child_by u f us (is_absolute f.flow) in omega (arith, h)

children_by : (u : ℕ) (n : NodeTree) (ns ms : List NodeTree) (ts : List Tree) → sum_with (each u) 0 ts + of_trees u ms ≤ of_trees u ns → (b : Bool)
    → sum_with (each u) 0 (if b then and_child as_child n.tree ts else []) + of_trees u (if b then ms else n ∷ ns) ≤ of_trees u (n ∷ ns)
children_by u n ns ms ts h true = let a = and_by u n.tree ts in omega (arith, a, h)
children_by u n ns ms ts h false = omega arith

children_few : (u k : ℕ) (ns : List NodeTree) → sum_with (each u) 0 (children_of as_child k ns) + of_trees u (others_than_children k ns) ≤ of_trees u ns
children_few u k [] = omega arith
children_few u k (n ∷ ns) = children_by u n ns (others_than_children k ns) (children_of as_child k ns) (children_few u k ns) (n.parent == k)

boxed_few : (u : ℕ) (o : Option Facts) (ts : List Tree) → of_tree u (box_with o ts) ≤ u + u + sum_with (each u) 0 ts
boxed_few u None ts = omega arith
boxed_few u (Some f) ts = let e = sum_is (each u) ts in omega (arith, e)

abbrev for_each : ℕ → List Node → ℕ
for_each u [] = 0
for_each u (n ∷ ns) = u + u + for_each u ns

nodes_few : (u k : ℕ) (ns : List Node) (ss : List Style) → of_trees u (node_trees as_child k ns ss) ≤ for_each u ns
nodes_few u k [] ss = omega arith
nodes_few u k (n ∷ ns) [] = omega arith
nodes_few u k (n ∷ ns) (s ∷ ss) =
    let after : List NodeTree = node_trees as_child (k + 1) ns ss in
    let h = nodes_few u (k + 1) ns ss in
    let c = children_few u k after in
    let b = boxed_few u (node_box k n s) (children_of as_child k after) in
    omega (arith, h, c, b)

first_few : (u : ℕ) (ns : List NodeTree) → of_tree u (first_tree ns) ≤ of_trees u ns
first_few u [] = omega arith
first_few u (n ∷ ns) = omega arith

each_36 : (ns : List Node) → for_each 36 ns ≡ 72 * length ns
each_36 [] = omega arith
each_36 (n ∷ ns) = let h = each_36 ns in omega (arith, h)

each_128 : (ns : List Node) → for_each 128 ns ≡ 256 * length ns
each_128 [] = omega arith
each_128 (n ∷ ns) = let h = each_128 ns in omega (arith, h)

-- Inline boxes stand in each other no deeper than nodes do.
module _ (dep : ℕ → ℕ) where
  -- the nodes from the place k on stand so deep
  abbrev Deep : ℕ → List Node → Type 0
  Deep k [] = Unit {0}
  Deep k (n ∷ ns) = (1 ≤ dep k) × (dep k ≤ 128) × (0 < k → dep k ≡ dep n.parent + 1) × Deep (k + 1) ns

  abbrev LowBelow : ℕ → Option Tree → Type 0
  LowBelow p None = Unit {0}
  LowBelow p (Some t) = (m : ℕ) × (m + dep p ≡ 128) × Low m t

  abbrev AllLowBelow : List NodeTree → Type 0
  AllLowBelow [] = Unit {0}
  AllLowBelow (n ∷ ns) = LowBelow n.parent n.tree × AllLowBelow ns

  low_child : (m : ℕ) (f : Facts) (us : Trees) → Low m (tree f us) → (b : Bool) → Low m (if b then tree (anchor_facts f) (also (tree (as_own f) us) no_trees) else tree f us)
  low_child m f us h true = (m, omega arith, (h, tt))
  low_child m f us h false = h

  low_and : (k m : ℕ) → m + dep k ≡ 128 → (o : Option Tree) (ts : List Tree) → LowBelow k o → AllLow m (trees_of ts) → AllLow m (trees_of (and_child as_child o ts))
  low_and k m e None ts h g = g
  low_and k m e (Some (tree f us)) ts h g =
      let q : h.0 ≡ m = omega (arith, e, h.1) in
      (low_child m f us (subst (λ (i : ℕ). Low i (tree f us)) q h.2) (is_absolute f.flow), g)

  low_children_by : (k m : ℕ) → m + dep k ≡ 128 → (n : NodeTree) (ts : List Tree) → LowBelow n.parent n.tree → AllLow m (trees_of ts) → (b : Bool) → (n.parent == k) ≡ b
      → AllLow m (trees_of (if b then and_child as_child n.tree ts else []))
  low_children_by k m e n ts h g true q = low_and k m e n.tree ts (subst (λ (p : ℕ). LowBelow p n.tree) (eqb-true n.parent k q) h) g
  low_children_by k m e n ts h g false q = tt

  low_children : (k m : ℕ) → m + dep k ≡ 128 → (ns : List NodeTree) → AllLowBelow ns → AllLow m (trees_of (children_of as_child k ns))
  low_children k m e [] h = tt
  low_children k m e (n ∷ ns) h = low_children_by k m e n (children_of as_child k ns) h.0 (low_children k m e ns h.1) (n.parent == k) refl

  low_others_by : (n : NodeTree) (ns ms : List NodeTree) → AllLowBelow ms → AllLowBelow (n ∷ ns) → (b : Bool) → AllLowBelow (if b then ms else n ∷ ns)
  low_others_by n ns ms h g true = h
  low_others_by n ns ms h g false = g

  low_others : (k : ℕ) (ns : List NodeTree) → AllLowBelow ns → AllLowBelow (others_than_children k ns)
  low_others k [] h = tt
  low_others k (n ∷ ns) h = low_others_by n ns (others_than_children k ns) (low_others k ns h.1) h (n.parent == k)

  -- a node's own tree, where its children are so low
  abbrev LowOwn : ℕ → Option Tree → Type 0
  LowOwn m None = Unit {0}
  LowOwn m (Some t) = Low m t

  low_box : (m : ℕ) (f : Facts) (us : Trees) → AllLow m us → (b : Bool) → is_inline f.form ≡ b → Low (m + 1) (tree f us)
  low_box m f us h true e = (m, rw e (omega arith), h)
  low_box m f us h false e = (m + 1, rw e (omega arith), all_lower m 1 us h)

  low_boxed : (m : ℕ) (o : Option Facts) (ts : List Tree) → AllLow m (trees_of ts) → LowOwn (m + 1) (box_with o ts)
  low_boxed m None ts h = tt
  low_boxed m (Some f) ts h = low_box m f (trees_of ts) h (is_inline f.form) refl

  low_below : (p m : ℕ) (o : Option Tree) → m + dep p ≡ 128 → LowOwn m o → LowBelow p o
  low_below p m None e h = tt
  low_below p m (Some t) e h = (m, e, h)

  -- those behind the node at k
  low_after : (k : ℕ) (ns : List Node) (ss : List Style) → 0 < k → Deep k ns → AllLowBelow (node_trees as_child k ns ss)
  low_after k [] ss positive deep = tt
  low_after k (n ∷ ns) [] positive deep = tt
  low_after k (n ∷ ns) (s ∷ ss) positive deep =
      let after : List NodeTree = node_trees as_child (k + 1) ns ss in
      let rest = low_after (k + 1) ns ss (omega arith) deep.3 in
      let m : ℕ = 128 - dep k in
      let e : m + dep k ≡ 128 = omega (arith, deep.1) in
      let under = deep.2 positive in (
        low_below n.parent (m + 1) (box_with (node_box k n s) (children_of as_child k after)) (omega (arith, e, under))
            (low_boxed m (node_box k n s) (children_of as_child k after) (low_children k m e after rest)),
        low_others k after rest,
      )

  pub low_first : (k : ℕ) (ns : List Node) (ss : List Style) → Deep k ns → LowOwn 128 (first_tree (node_trees as_child k ns ss))
  low_first k [] ss deep = tt
  low_first k (n ∷ ns) [] deep = tt
  low_first k (n ∷ ns) (s ∷ ss) deep =
      let after : List NodeTree = node_trees as_child (k + 1) ns ss in
      let rest = low_after (k + 1) ns ss (omega arith) deep.3 in
      let m : ℕ = 128 - dep k in
      let e : m + dep k ≡ 128 = omega (arith, deep.1) in
      raised (m + 1) (127 - m) (omega (arith, e, deep.0)) (box_with (node_box k n s) (children_of as_child k after))
      (low_boxed m (node_box k n s) (children_of as_child k after) (low_children k m e after rest))
    where
      raised : (a b : ℕ) → a + b ≡ 128 → (o : Option Tree) → LowOwn a o → LowOwn 128 o
      raised a b q None h = tt
      raised a b q (Some t) h = subst (λ (i : ℕ). Low i t) q (lower a b t h)

-- The list of a context's boxes.
mutual
  listed_length : (nodes : List Node) (styles : List Style) (above : Facts) (parent at : ℕ) (t : Tree) → length (listed nodes styles above parent at t) ≡ total (each 1) t
  listed_length nodes styles above parent at (tree f us) = let h = all_listed_length nodes styles f at (at + 1) us in omega (arith, h)

  all_listed_length : (nodes : List Node) (styles : List Style) (above : Facts) (parent at : ℕ) (us : Trees) → length (all_listed nodes styles above parent at us) ≡ totals (each 1) us
  all_listed_length nodes styles above parent at no_trees = refl
  all_listed_length nodes styles above parent at (also t ts) =
      let h = listed_length nodes styles above parent at t in
      let g = all_listed_length nodes styles above parent (at + length (listed nodes styles above parent at t)) ts in
      let a = length-append {A = BoxNode} (listed nodes styles above parent at t) (all_listed nodes styles above parent (at + length (listed nodes styles above parent at t)) ts) in
      omega (arith, h, g, a)

part_length : (nodes : List Node) (styles : List Style) (ts : List Tree) → length (listed_part nodes styles ts) ≡ totals (each 1) (trees_of ts)
part_length nodes styles [] = refl
part_length nodes styles (tree f us ∷ ts) = all_listed_length nodes styles f 0 0 (trees_of (tree f us ∷ ts))

put_by : (f : Facts) (n m : ℕ) (us : Trees) → totals (each 1) us ≤ n → (b : Bool) → totals (each 1) (if b then no_trees else us) ≤ n
put_by f n m us h true = omega arith
put_by f n m us h false = h

mutual
  put_less : (t : Tree) → total (each 1) (put nothing t) ≤ total (each 1) t
  put_less (tree f us) = let h = put_by f (totals (each 1) us) 0 (all_put nothing us) (all_put_less us) (is_closed f) in omega (arith, h)

  all_put_less : (us : Trees) → totals (each 1) (all_put nothing us) ≤ totals (each 1) us
  all_put_less no_trees = omega arith
  all_put_less (also t ts) = let h = put_less t in let g = all_put_less ts in omega (arith, h, g)

list_put_less : (ts : List Tree) → totals (each 1) (trees_of (put_list nothing ts)) ≤ totals (each 1) (trees_of ts)
list_put_less [] = omega arith
list_put_less (t ∷ ts) = let h = put_less t in let g = list_put_less ts in omega (arith, h, g)

whole_few : (dep : ℕ → ℕ) (n : ℕ) (o : Option Tree) → of_tree 36 o ≤ 72 * n → of_tree 128 o ≤ 256 * n → LowOwn dep 128 o → totals (each 1) (trees_of (generated_of o)) ≤ 584 * n
whole_few dep n None h g low = omega arith
whole_few dep n (Some (tree f us)) h g low =
    let a = generated_total (tree (as_own f) us) in
    let u = under_few 128 (tree f us) low in
    omega (arith, a, u, h, g)

drop_less : (k : ℕ) (ns : List Node) → length (drop k ns) ≤ length ns
drop_less zero ns = omega arith
drop_less (suc k) [] = omega arith
drop_less (suc k) (n ∷ ns) = let h = drop_less k ns in omega (arith, h)

part_few : (dep : ℕ → ℕ) (nodes : List Node) (styles : List Style) (k : ℕ) → Deep dep k (drop k nodes) → length (listed_part nodes styles (part nodes styles k)) ≤ 584 * length nodes
part_few dep nodes styles k deep =
    let ns : List Node = drop k nodes in
    let stack : List NodeTree = node_trees as_child k ns (drop k styles) in
    let f36 = first_few 36 stack in
    let n36 = nodes_few 36 k ns (drop k styles) in
    let f128 = first_few 128 stack in
    let n128 = nodes_few 128 k ns (drop k styles) in
    let c36 = each_36 ns in
    let c128 = each_128 ns in
    let less = drop_less k nodes in
    let w = whole_few dep (length nodes) (tree_at nodes styles k) (omega (arith, f36, n36, c36, less)) (omega (arith, f128, n128, c128, less)) (low_first dep k ns (drop k styles) deep) in
    let p = list_put_less (whole nodes styles k) in
    let l = part_length nodes styles (part nodes styles k) in
    omega (arith, w, p, l)

-- A document's nodes stand as deep as they say.
first_of : (ns : List Node) → 0 < length ns → Node
first_of [] h = absurd (omega arith)
first_of (n ∷ ns) h = n

module _ (d : Document) (is : IsDocument d) where
  n0 : Node
  n0 = first_of d.nodes is.some

  one_deep : (k : ℕ) → k < length d.nodes → 1 ≤ get_or (depths_of d.nodes) k 0
  one_deep zero lt = let h = is.depth_root in omega (arith, h)
  one_deep (suc k) lt = let h = is.depth (suc k) (omega arith) lt in omega (arith, h)

  deep_from : (m k : ℕ) → k + m ≡ length d.nodes → Deep (λ p. get_or (depths_of d.nodes) p 0) k (drop k d.nodes)
  deep_from zero k e = let none : drop k d.nodes ≡ [] = drop_all k d.nodes (omega (arith, e)) in rw none tt
  deep_from (suc m) k e =
      let lt : k < length d.nodes = omega (arith, e) in
      let c : drop k d.nodes ≡ get_or d.nodes k n0 ∷ drop (k + 1) d.nodes = let s : k + 1 ≡ suc k = omega arith in rw s (drop-cons d.nodes k n0 lt) in
      let up : get_or (parents_of d.nodes) k 0 ≡ (get_or d.nodes k n0).parent = get_or-map (λ (n : Node). n.parent) d.nodes k n0 0 lt in
      rw c (one_deep k lt, is.shallow k lt, (λ positive. rw (← up) (is.depth k positive lt)), deep_from m (k + 1) (omega (arith, e)))

  boxes_by : (styles : List Style) (o : Option ℕ) → ((k : ℕ) → o ≡ Some k → k < length d.nodes) → length (boxes_at d.nodes styles o) ≤ 584 * length d.nodes
  boxes_by styles None there = omega arith
  boxes_by styles (Some k) there =
      let lt = there k refl in
      part_few (λ p. get_or (depths_of d.nodes) p 0) d.nodes styles k (deep_from (length d.nodes - k) k (omega (arith, lt)))

pub boxes_are_few : BoxesAreFew
boxes_are_few d styles id is =
    let h : length (boxes_of d styles id) ≤ 584 * length d.nodes = boxes_by d is styles (place_of id (ids_of d.nodes)) (λ k e. let w = place_within id (ids_of d.nodes) k e in omega (arith, w, length-ids d.nodes)) in
    let few = is.few in
    (h, omega (arith, h, few))
