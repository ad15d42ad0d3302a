-- The tree of a node stands among the children of its parent's tree.
use Rattle.std.proofs.Common.{◌≡◌, ◌⊎◌, inl, inr, ℕ, zero, suc, ◌+◌, ◌-◌, ◌<◌, ◌≤◌, ◌==◌, Bool, true, false, List, [], ◌∷◌, length, map, drop, slice_get, slice_index, slice_index_or, refl, ap, sym, subst, ◌∙◌, arith, if◌then◌else◌, Option, None, Some}
use Rattle.std.proofs.lemmas.Bool.{eqb-true}
use Rattle.lay_style.specs.declared.style.Style.{Style}
use Rattle.lay_style.specs.ComputedStyle.{style_at}
use Rattle.lay_style.specs.InitialStyle.{initial_style}
use Rattle.lay_doc.specs.declared.node.Node.{Node}
use Rattle.lay_doc.specs.Document.{ids_of, parents_of}
use Rattle.lay_doc.specs.Tree.{IsTree}
use Rattle.lay_boxgen.specs.Boxes.{Tree, Trees, no_trees, also, trees_of}
use Rattle.lay_boxgen.specs.Contexts.{box_at, box_of_node}
use Rattle.lay_boxgen.specs.NodeBoxes.{node_box}
use Rattle.lay_boxgen.specs.NodeTrees.{as_child, and_child, children_of, others_than_children, box_with, node_trees, first_tree, tree_at}
use Rattle.lay_boxgen.specs.declared.node_trees.NodeTree.{NodeTree}
use Rattle.lay_contexts.specs.ContextTree.{parent_of}

-- What stands at a place of a list.
pub record IsAt {X : Type 0} (xs : List X) (k : ℕ) : Type 0 where
  pub item : X
  pub from : drop k xs ≡ item ∷ drop (k + 1) xs
  pub get : slice_get xs k ≡ Some item
  pub read : (d : X) → slice_index_or xs k d ≡ item

pub at : {X : Type 0} (xs : List X) (k : ℕ) → k < length xs → IsAt xs k
at [] k lt = absurd (omega (arith, lt))
at (x ∷ xs) zero lt = record { item = x; from = refl; get = refl; read = λ d. refl }
at (x ∷ xs) (suc k) lt =
    let h = at xs k (omega (arith, lt)) in
    record {
      item = h.item;
      from = h.from ∙ ap (λ n. h.item ∷ drop n (x ∷ xs)) (let e : suc (k + 1) ≡ suc k + 1 = omega arith in e);
      get = h.get;
      read = h.read;
    }

pub column_at : (g : Node → ℕ) (xs : List Node) (k : ℕ) (n : Node) → slice_get xs k ≡ Some n → slice_index (map g xs) k ≡ g n
column_at g [] zero n h = cc
column_at g [] (suc k) n h = cc
column_at g (x ∷ xs) zero n h = ap g (ap (unwrap x) h)
  where
    unwrap : Node → Option Node → Node
    unwrap y None = y
    unwrap y (Some w) = w
column_at g (x ∷ xs) (suc k) n h = column_at g xs k n h

abbrev pub In : Tree → List Tree → Type 0
In x [] = ⊥
In x (y ∷ ys) = (y ≡ x) ⊎ In x ys

abbrev pub InTrees : Tree → Trees → Type 0
InTrees x no_trees = ⊥
InTrees x (also t ts) = (t ≡ x) ⊎ InTrees x ts

pub in-trees : (x : Tree) (ts : List Tree) → In x ts → InTrees x (trees_of ts)
in-trees x [] h = absurd h
in-trees x (t ∷ ts) (inl e) = inl e
in-trees x (t ∷ ts) (inr h) = inr (in-trees x ts h)

module _ (nodes : List Node) (styles : List Style) (is_tree : IsTree (parents_of nodes)) (same : length styles ≡ length nodes) where
  pub forest : ℕ → List NodeTree
  forest m = node_trees as_child m (drop m nodes) (drop m styles)

  -- a node of the document, with its style and its box
  pub record NodeAt (k : ℕ) : Type 0 where
    pub node : Node
    pub style : Style
    pub nodes_from : drop k nodes ≡ node ∷ drop (k + 1) nodes
    pub styles_from : drop k styles ≡ style ∷ drop (k + 1) styles
    pub get : slice_get nodes k ≡ Some node
    pub box : box_at nodes styles k ≡ node_box k node style
    pub parent : node.parent ≡ parent_of nodes k
    pub id : node.id.0 ≡ slice_index (ids_of nodes) k

  pub node-at : (k : ℕ) → k < length nodes → NodeAt k
  node-at k lt =
      let n = at nodes k lt in
      let s = at styles k (omega (arith, lt, same)) in
      record {
        node = n.item;
        style = s.item;
        nodes_from = n.from;
        styles_from = s.from;
        get = n.get;
        box = ap (λ o. box_of_node k o (style_at styles k)) n.get ∙ ap (node_box k n.item) (s.read initial_style);
        parent = sym (column_at (λ m. m.parent) nodes k n.item n.get);
        id = sym (column_at (λ m. m.id.0) nodes k n.item n.get);
      }

  abbrev IsRoot : ℕ → NodeTree → Type 0
  IsRoot m n = (r : ℕ) × (m ≤ r) × (r < length nodes) × (n.parent ≡ parent_of nodes r)

  -- Among these trees, of nodes from m on, stands t, whose node's parent is j. The parents of those before it aren't before j,
  -- and none stands behind the one before it.
  abbrev Found : (j : ℕ) → Option Tree → (m u : ℕ) → List NodeTree → Type 0
  Found j t m u [] = ⊥
  Found j t m u (n ∷ ns) = ((n.parent ≡ j) × (n.tree ≡ t) × (j < u)) ⊎ (IsRoot m n × (j ≤ n.parent) × (n.parent < u) × Found j t m (n.parent + 1) ns)

  weaker : (j : ℕ) (t : Option Tree) (m u : ℕ) (ns : List NodeTree) → Found j t (m + 1) u ns → Found j t m u ns
  weaker j t m u [] h = h
  weaker j t m u (n ∷ ns) (inl h) = inl h
  weaker j t m u (n ∷ ns) (inr h) = inr ((h.0.0, (let le = h.0.1 in omega (arith, le)), h.0.2, h.0.3), h.1, h.2, weaker j t m (n.parent + 1) ns h.3)

  -- what is left behind the children of a node between
  module _ (j m : ℕ) (t : Option Tree) (after : j < m) (over : j ≤ parent_of nodes m) where
    others_by : (n : NodeTree) (ns : List NodeTree) (u : ℕ) → u ≤ m + 1 → Found j t (m + 1) u (n ∷ ns)
        → ((u : ℕ) → u ≤ m + 1 → Found j t (m + 1) u ns → Found j t m (parent_of nodes m + 1) (others_than_children m ns))
        → (b : Bool) → (n.parent == m) ≡ b → Found j t m (parent_of nodes m + 1) (if b then others_than_children m ns else n ∷ ns)
    others_by n ns u le (inl h) rest true e = absurd (let p = eqb-true n.parent m e in let q = h.0 in omega (arith, p, q, after))
    others_by n ns u le (inr h) rest true e = rest (n.parent + 1) (let lt = h.2 in omega (arith, lt, le)) h.3
    others_by n ns u le (inl h) rest false e = inl (h.0, h.1, omega (arith, over))
    others_by n ns u le (inr h) rest false e =
        let isnt : n.parent ≡ m → ⊥ = grind (arith, e) in
        let lt = h.2 in
        let is = h.0.3 in
        let from = h.0.1 in
        let low = is_tree.together m h.0.0 (omega (arith, from)) (let w = h.0.2 in omega (arith, w, length-parents nodes)) (omega (arith, lt, le, isnt, is)) in
        inr ((h.0.0, omega (arith, from), h.0.2, h.0.3), h.1, omega (arith, low, is), weaker j t m (n.parent + 1) ns h.3)
      where
        length-parents : (ns : List Node) → length (parents_of ns) ≡ length ns
        length-parents [] = refl
        length-parents (n ∷ ns) = ap suc (length-parents ns)

    others-found : (ns : List NodeTree) (u : ℕ) → u ≤ m + 1 → Found j t (m + 1) u ns → Found j t m (parent_of nodes m + 1) (others_than_children m ns)
    others-found [] u le h = absurd h
    others-found (n ∷ ns) u le h = others_by n ns u le h (others-found ns) (n.parent == m) refl

  length-parents : (ns : List Node) → length (parents_of ns) ≡ length ns
  length-parents [] = refl
  length-parents (n ∷ ns) = ap suc (length-parents ns)

  pub forest-is : (m : ℕ) (n : NodeAt m) → forest m ≡ record { parent = n.node.parent; tree = box_with (node_box m n.node n.style) (children_of as_child m (forest (m + 1))) } ∷ others_than_children m (forest (m + 1))
  unfolding forest
  forest-is m n = ap (λ r. node_trees as_child m r (drop m styles)) n.nodes_from ∙ ap (node_trees as_child m (n.node ∷ drop (m + 1) nodes)) n.styles_from

  pub tree-is : (m : ℕ) (n : NodeAt m) → tree_at nodes styles m ≡ box_with (node_box m n.node n.style) (children_of as_child m (forest (m + 1)))
  unfolding forest
  tree-is m n = ap first_tree (forest-is m n)

  module _ (q : ℕ) (within : q < length nodes) where
    found : (d m : ℕ) → q ≡ m + d → parent_of nodes q < m → Found (parent_of nodes q) (tree_at nodes styles q) m m (forest m)
    found zero m e lt =
        let n = node-at m (omega (arith, e, within)) in
        let is : q ≡ m = omega (arith, e) in
        subst (Found (parent_of nodes q) (tree_at nodes styles q) m m) (sym (forest-is m n))
        (inl (n.parent ∙ ap (parent_of nodes) (sym is), sym (tree-is m n) ∙ ap (tree_at nodes styles) (sym is), lt))
    found (suc d) m e lt =
        let n = node-at m (omega (arith, e, within)) in
        let rest = found d (m + 1) (omega (arith, e)) (omega (arith, lt)) in
        let low = is_tree.together m q (omega (arith, e)) (omega (arith, within, length-parents nodes)) lt in
        let before = is_tree.before m (omega (arith, lt)) (omega (arith, e, within, length-parents nodes)) in
        let is = n.parent in
        subst (Found (parent_of nodes q) (tree_at nodes styles q) m m) (sym (forest-is m n))
        (inr (
          (m, omega arith, omega (arith, e, within), n.parent),
          omega (arith, low, is),
          omega (arith, before, is),
          subst (λ (v : ℕ). Found (parent_of nodes q) (tree_at nodes styles q) m (v + 1) (others_than_children m (forest (m + 1)))) (sym n.parent)
              (others-found (parent_of nodes q) m (tree_at nodes styles q) lt low (forest (m + 1)) (m + 1) (omega arith) rest),
        ))

  -- the children of a node
  or-more : (x : Tree) (o : Option Tree) (ts : List Tree) → In x ts → In x (and_child as_child o ts)
  or-more x None ts h = h
  or-more x (Some t) ts h = inr h

  this : (t : Tree) (o : Option Tree) (ts : List Tree) → o ≡ Some t → In (as_child t) (and_child as_child o ts)
  this t None ts e = cc
  this t (Some s) ts e = inl (ap (λ r. as_child (unwrap s r)) e)
    where
      unwrap : Tree → Option Tree → Tree
      unwrap a None = a
      unwrap a (Some b) = b

  children_by : (j : ℕ) (t : Tree) (m u : ℕ) (n : NodeTree) (ns : List NodeTree) → u ≤ j + 1 → Found j (Some t) m u (n ∷ ns)
      → ((u : ℕ) → u ≤ j + 1 → Found j (Some t) m u ns → In (as_child t) (children_of as_child j ns))
      → (b : Bool) → (n.parent == j) ≡ b → In (as_child t) (if b then and_child as_child n.tree (children_of as_child j ns) else [])
  children_by j t m u n ns le (inl h) rest true e = this t n.tree (children_of as_child j ns) h.1
  children_by j t m u n ns le (inr h) rest true e = or-more (as_child t) n.tree (children_of as_child j ns) (rest (n.parent + 1) (let lt = h.2 in omega (arith, lt, le)) h.3)
  children_by j t m u n ns le (inl h) rest false e = absurd (let isnt : n.parent ≡ j → ⊥ = grind (arith, e) in isnt h.0)
  children_by j t m u n ns le (inr h) rest false e = absurd (let isnt : n.parent ≡ j → ⊥ = grind (arith, e) in isnt (let lt = h.2 in let low = h.1 in omega (arith, lt, le, low)))

  children-found : (j : ℕ) (t : Tree) (m : ℕ) (ns : List NodeTree) (u : ℕ) → u ≤ j + 1 → Found j (Some t) m u ns → In (as_child t) (children_of as_child j ns)
  children-found j t m [] u le h = absurd h
  children-found j t m (n ∷ ns) u le h = children_by j t m u n ns le h (children-found j t m ns) (n.parent == j) refl

  pub is-child : (q : ℕ) (t : Tree) → 0 < q → q < length nodes → tree_at nodes styles q ≡ Some t → In (as_child t) (children_of as_child (parent_of nodes q) (forest (parent_of nodes q + 1)))
  is-child q t positive within e =
      let j : ℕ = parent_of nodes q in
      let before = is_tree.before q positive (omega (arith, within, length-parents nodes)) in
      let h = found q within (q - (j + 1)) (j + 1) (omega (arith, before)) (omega arith) in
      children-found j t (j + 1) (forest (j + 1)) (j + 1) (omega arith) (subst (λ o. Found j o (j + 1) (j + 1) (forest (j + 1))) e h)
