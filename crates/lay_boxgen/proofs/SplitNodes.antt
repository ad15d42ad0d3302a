-- The tree of a node is that of the node and all below it alone.
use Rattle.std.proofs.Common.{zero, drop, take, slice_index, option_map, ◌≡◌, ◌<◌, ◌≤◌, ℕ, ◌+◌, ◌==◌, Bool, true, false, List, [], ◌∷◌, ◌++◌, length, refl, ap, sym, ◌∙◌, if◌then◌else◌, Option, None, Some, arith, suc}
use Rattle.std.specs.List.{between}
use Rattle.lay_style.specs.declared.style.Style.{Style}
use Rattle.lay_doc.specs.declared.node.Node.{Node}
use Rattle.std.proofs.lemmas.List.{take-append-drop}
use Rattle.std.proofs.lemmas.List.Edits.{length-between}
use Rattle.std.proofs.lemmas.Slice.{between_is}
use Rattle.lay_doc.specs.Document.{parents_of}
use Rattle.lay_boxgen.specs.CutTrees.{as_leaf, cut_tree, cut_own, cut_tree_at}
use Rattle.lay_boxgen.specs.Parts.{own_tree}
use Rattle.lay_boxgen.proofs.CutNodes.{tree-cut}
use Rattle.lay_boxgen.specs.Boxes.{Tree}
use Rattle.lay_boxgen.specs.NodeBoxes.{node_box}
use Rattle.lay_boxgen.specs.NodeTrees.{as_child, tree_at, and_child, children_of, others_than_children, with_node_tree, box_with, node_trees, first_tree}
use Rattle.lay_boxgen.specs.declared.node_trees.NodeTree.{NodeTree}

-- none is there, or the first one's parent stands before this place
abbrev pub StartsBefore : ℕ → List NodeTree → Type 0
StartsBefore c [] = Unit {0}
StartsBefore c (n ∷ ns) = n.parent < c

-- the same of nodes
abbrev pub NodesStartBefore : ℕ → List Node → Type 0
NodesStartBefore c [] = Unit {0}
NodesStartBefore c (n ∷ ns) = n.parent < c

module _ (seen : Tree → Tree) (c : ℕ) where
  starts : (k : ℕ) (ns : List Node) (ss : List Style) → NodesStartBefore c ns → StartsBefore c (node_trees seen k ns ss)
  starts k [] ss h = tt
  starts k (n ∷ ns) [] h = tt
  starts k (n ∷ ns) (s ∷ ss) h = h

  no_child : (p k : ℕ) → p < c → c ≤ k → (p == k) ≡ false
  no_child p k less le = grind (arith)

  none-behind : (k : ℕ) → c ≤ k → (ys : List NodeTree) → StartsBefore c ys → children_of seen k ys ≡ []
  none-behind k le [] h = refl
  none-behind k le (y ∷ ys) h = simp (no_child y.parent k h le) refl

  all-behind : (k : ℕ) → c ≤ k → (ys : List NodeTree) → StartsBefore c ys → others_than_children k ys ≡ ys
  all-behind k le [] h = refl
  all-behind k le (y ∷ ys) h = simp (no_child y.parent k h le) refl

  children_by : (n : NodeTree) (ts us : List Tree) → ts ≡ us → (b : Bool) → (if b then and_child seen n.tree ts else []) ≡ (if b then and_child seen n.tree us else [])
  children_by n ts us h b = ap (λ r. if b then and_child seen n.tree r else []) h

  children-split : (k : ℕ) → c ≤ k → (xs ys : List NodeTree) → StartsBefore c ys → children_of seen k (xs ++ ys) ≡ children_of seen k xs
  children-split k le [] ys h = none-behind k le ys h
  children-split k le (x ∷ xs) ys h = children_by x (children_of seen k (xs ++ ys)) (children_of seen k xs) (children-split k le xs ys h) (x.parent == k)

  others_by : (x : NodeTree) (xs ys : List NodeTree) (k : ℕ) → others_than_children k (xs ++ ys) ≡ others_than_children k xs ++ ys → (b : Bool)
      → (if b then others_than_children k (xs ++ ys) else x ∷ (xs ++ ys)) ≡ (if b then others_than_children k xs else x ∷ xs) ++ ys
  others_by x xs ys k ih true = ih
  others_by x xs ys k ih false = refl

  others-split : (k : ℕ) → c ≤ k → (xs ys : List NodeTree) → StartsBefore c ys → others_than_children k (xs ++ ys) ≡ others_than_children k xs ++ ys
  others-split k le [] ys h = all-behind k le ys h
  others-split k le (x ∷ xs) ys h = others_by x xs ys k (others-split k le xs ys h) (x.parent == k)

  node-split : (k : ℕ) → c ≤ k → (n : Node) (s : Style) (xs ys : List NodeTree) → StartsBefore c ys → with_node_tree seen k n s (xs ++ ys) ≡ with_node_tree seen k n s xs ++ ys
  node-split k le n s xs ys h =
      ap (λ t. record { parent = n.parent; tree = box_with (node_box k n s) t } ∷ others_than_children k (xs ++ ys)) (children-split k le xs ys h)
      ∙ ap (λ r. record { parent = n.parent; tree = box_with (node_box k n s) (children_of seen k xs) } ∷ r) (others-split k le xs ys h)

  pub trees-split : (k : ℕ) → c ≤ k → (xs ys : List Node) (ss ts : List Style) → length ss ≡ length xs → NodesStartBefore c ys
      → node_trees seen k (xs ++ ys) (ss ++ ts) ≡ node_trees seen k xs ss ++ node_trees seen (k + length xs) ys ts
  trees-split k le [] ys [] ts e h = ap (λ m. node_trees seen m ys ts) (omega arith)
  trees-split k le [] ys (s ∷ ss) ts e h = absurd (omega (arith, e))
  trees-split k le (x ∷ xs) ys [] ts e h = absurd (omega (arith, e))
  trees-split k le (x ∷ xs) ys (s ∷ ss) ts e h =
      let same : (k + 1) + length xs ≡ k + length (x ∷ xs) = omega arith in
      ap (with_node_tree seen k x s) (trees-split (k + 1) (omega (arith, le)) xs ys ss ts (omega (arith, e)) h)
      ∙ (ap (λ m. with_node_tree seen k x s (node_trees seen (k + 1) xs ss ++ node_trees seen m ys ts)) same
      ∙ node-split k le x s (node_trees seen (k + 1) xs ss) (node_trees seen (k + length (x ∷ xs)) ys ts) (starts (k + length (x ∷ xs)) ys ts h))

  pub first-split : (xs ys : List Node) (ss ts : List Style) → length ss ≡ length xs → 0 < length xs → NodesStartBefore c ys
      → first_tree (node_trees seen c xs ss) ≡ first_tree (node_trees seen c (xs ++ ys) (ss ++ ts))
  first-split [] ys ss ts e some h = absurd (omega (arith, some))
  first-split (x ∷ xs) ys [] ts e some h = absurd (omega (arith, e))
  first-split (x ∷ xs) ys (s ∷ ss) ts e some h = sym (ap first_tree (trees-split c (omega arith) (x ∷ xs) ys (s ∷ ss) ts e h))

drop-between : {X : Type 0} (c e : ℕ) → c ≤ e → (xs : List X) → drop c xs ≡ drop c (take e xs) ++ drop e xs
drop-between zero e le xs = sym (take-append-drop e xs)
drop-between (suc c) zero le xs = absurd (omega (arith, le))
drop-between (suc c) (suc e) le [] = refl
drop-between (suc c) (suc e) le (x ∷ xs) = drop-between c e (omega (arith, le)) xs

start-behind : (c e : ℕ) (nodes : List Node) → (e < length nodes → slice_index (parents_of nodes) e < c) → NodesStartBefore c (drop e nodes)
start-behind c zero [] h = tt
start-behind c zero (n ∷ ns) h = h (omega arith)
start-behind c (suc e) [] h = tt
start-behind c (suc e) (n ∷ ns) h = start-behind c e ns (λ less. h (omega (arith, less)))

pub tree-between : (nodes : List Node) (styles : List Style) (c e : ℕ) → c < e → e ≤ length nodes → length styles ≡ length nodes
    → (e < length nodes → slice_index (parents_of nodes) e < c)
    → first_tree (node_trees as_child c (between c e nodes) (between c e styles)) ≡ tree_at nodes styles c
tree-between nodes styles c e less le same h =
    let ns = drop-between c e (omega (arith, less)) nodes ∙ ap (λ r. r ++ drop e nodes) (sym (between_is nodes c e)) in
    let ss = drop-between c e (omega (arith, less)) styles ∙ ap (λ r. r ++ drop e styles) (sym (between_is styles c e)) in
    let n = length-between nodes c e le in
    let m = length-between styles c e (omega (arith, le, same)) in
    first-split as_child c (between c e nodes) (drop e nodes) (between c e styles) (drop e styles) (m ∙ sym n) (omega (arith, n, less)) (start-behind c e nodes h)
    ∙ (ap (λ r. first_tree (node_trees as_child c r (between c e styles ++ drop e styles))) (sym ns)
    ∙ ap (λ r. first_tree (node_trees as_child c (drop c nodes) r)) (sym ss))

pub own-cut : (o : Option Tree) → option_map own_tree (option_map cut_tree o) ≡ option_map cut_own o
own-cut None = refl
own-cut (Some t) = refl

pub cut-tree-between : (nodes : List Node) (styles : List Style) (c e : ℕ) → c < e → e ≤ length nodes → length styles ≡ length nodes
    → (e < length nodes → slice_index (parents_of nodes) e < c)
    → option_map own_tree (first_tree (node_trees as_leaf c (between c e nodes) (between c e styles))) ≡ cut_tree_at nodes styles c
cut-tree-between nodes styles c e less le same h =
    ap (option_map own_tree) (tree-cut nodes styles c (between c e nodes) (between c e styles) (tree-between nodes styles c e less le same h))
    ∙ own-cut (tree_at nodes styles c)
