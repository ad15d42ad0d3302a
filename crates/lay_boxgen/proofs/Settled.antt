-- What stands in the boxes of contexts in the trees of a document's nodes.
use Rattle.std.proofs.Common.{◌≡◌, ℕ, zero, suc, ◌+◌, ◌==◌, Bool, true, false, List, [], ◌∷◌, refl, ap, subst, ◌∙◌, if◌then◌else◌, Option, None, Some, drop, arith}
use Rattle.lay_style.specs.declared.style.Style.{Style}
use Rattle.lay_doc.specs.declared.node.Node.{Node}
use Rattle.lay_boxgen.specs.Boxes.{Tree, Trees, tree, no_trees, also, trees_of}
use Rattle.lay_boxgen.specs.Forms.{is_absolute, is_anchor, is_inline, is_white}
use Rattle.lay_boxgen.specs.Laws.{trees_below, alone}
use Rattle.lay_boxgen.specs.NodeBoxes.{node_box}
use Rattle.lay_boxgen.specs.NodeTrees.{as_own, anchor_facts, as_child, and_child, children_of, others_than_children, box_with, node_trees, first_tree, tree_at}
use Rattle.lay_boxgen.specs.Parts.{is_closed, put, all_put, put_list}
use Rattle.lay_boxgen.specs.declared.facts.Facts.{Facts}
use Rattle.lay_boxgen.specs.declared.node_trees.NodeTree.{NodeTree}
use Rattle.lay_boxgen.proofs.NodeForms.{IsNodeBox, is-node_box}
use Rattle.lay_boxgen.proofs.Putting.{put-trees_of}

pub drop-next : {X : Type 0} (k : ℕ) (xs : List X) (x : X) (ys : List X) → drop k xs ≡ x ∷ ys → drop (k + 1) xs ≡ ys
drop-next zero (z ∷ zs) x ys h = ap tail h
  where
    tail : {X : Type 0} → List X → List X
    tail [] = []
    tail (w ∷ ws) = ws
drop-next (suc k) (z ∷ zs) x ys h =
    let e : suc k + 1 ≡ suc (k + 1) = omega arith in
    ap (λ m. drop m (z ∷ zs)) e ∙ drop-next k zs x ys h
drop-next zero [] x ys h = cc
drop-next (suc k) [] x ys h = cc

module _ (nodes : List Node) (styles : List Style) where
  -- the tree of a node whose box has these facts, with what stands in inner boxes in them
  pub record IsSettled (f : Facts) (us : Trees) : Type 0 where
    pub own : tree_at nodes styles f.place ≡ Some (tree f us)
    pub inner : all_put (trees_below nodes styles) us ≡ us
    pub no_anchor : is_anchor f.form ≡ false
    pub no_inline : is_absolute f.flow ≡ true → (is_white f.form ≡ false) × (is_inline f.form ≡ false)

  abbrev pub IsSettledTree : Option Tree → Type 0
  IsSettledTree None = Unit {0}
  IsSettledTree (Some (tree f us)) = IsSettled f us

  abbrev pub AllSettled : List NodeTree → Type 0
  AllSettled [] = Unit {0}
  AllSettled (n ∷ ns) = IsSettledTree n.tree × AllSettled ns

  pub below-own : (f : Facts) (us : Trees) → IsSettled f us → trees_below nodes styles f ≡ us
  below-own f us s = simp (s.no_anchor, s.own) refl

  pub below-anchor : (f : Facts) (us : Trees) → IsSettled f us → trees_below nodes styles (anchor_facts f) ≡ also (tree (as_own f) us) no_trees
  below-anchor f us s = ap alone s.own

  open_by : (f : Facts) (us : Trees) → IsSettled f us → (b : Bool)
      → tree f (if b then trees_below nodes styles f else all_put (trees_below nodes styles) us) ≡ tree f us
  open_by f us s true = ap (tree f) (below-own f us s)
  open_by f us s false = ap (tree f) s.inner

  child_by : (f : Facts) (us : Trees) → IsSettled f us → (b : Bool)
      → put (trees_below nodes styles) (if b then tree (anchor_facts f) (also (tree (as_own f) us) no_trees) else tree f us)
      ≡ (if b then tree (anchor_facts f) (also (tree (as_own f) us) no_trees) else tree f us)
  child_by f us s true = ap (tree (anchor_facts f)) (below-anchor f us s)
  child_by f us s false = open_by f us s (is_closed f)

  child-settled : (o : Option Tree) (ts : List Tree) → IsSettledTree o → put_list (trees_below nodes styles) ts ≡ ts
      → put_list (trees_below nodes styles) (and_child as_child o ts) ≡ and_child as_child o ts
  child-settled None ts s h = h
  child-settled (Some (tree f us)) ts s h =
      ap (λ r. put (trees_below nodes styles) (as_child (tree f us)) ∷ r) h ∙ ap (λ t. t ∷ ts) (child_by f us s (is_absolute f.flow))

  children_by : (n : NodeTree) (ts : List Tree) → IsSettledTree n.tree → put_list (trees_below nodes styles) ts ≡ ts → (b : Bool)
      → put_list (trees_below nodes styles) (if b then and_child as_child n.tree ts else []) ≡ (if b then and_child as_child n.tree ts else [])
  children_by n ts s h true = child-settled n.tree ts s h
  children_by n ts s h false = refl

  children-settled : (k : ℕ) (ns : List NodeTree) → AllSettled ns → put_list (trees_below nodes styles) (children_of as_child k ns) ≡ children_of as_child k ns
  children-settled k [] s = refl
  children-settled k (n ∷ ns) s = children_by n (children_of as_child k ns) s.0 (children-settled k ns s.1) (n.parent == k)

  others_by : (n : NodeTree) (ns ms : List NodeTree) → AllSettled ms → AllSettled (n ∷ ns) → (b : Bool) → AllSettled (if b then ms else n ∷ ns)
  others_by n ns ms h g true = h
  others_by n ns ms h g false = g

  others-settled : (k : ℕ) (ns : List NodeTree) → AllSettled ns → AllSettled (others_than_children k ns)
  others-settled k [] s = tt
  others-settled k (n ∷ ns) s = others_by n ns (others_than_children k ns) (others-settled k ns s.1) s (n.parent == k)

  box-settled : (k : ℕ) (o : Option Facts) (n : Node) (cs : List Tree) → IsNodeBox k n o → tree_at nodes styles k ≡ box_with o cs
      → put_list (trees_below nodes styles) cs ≡ cs → IsSettledTree (box_with o cs)
  box-settled k None n cs b e h = tt
  box-settled k (Some f) n cs b e h = record {
    own = ap (tree_at nodes styles) b.place ∙ e;
    inner = put-trees_of (trees_below nodes styles) cs ∙ ap trees_of h;
    no_anchor = b.no_anchor;
    no_inline = b.no_inline;
  }

  pub nodes-settled : (k : ℕ) (ns : List Node) (ss : List Style) → drop k nodes ≡ ns → drop k styles ≡ ss → AllSettled (node_trees as_child k ns ss)
  nodes-settled k [] ss g h = tt
  nodes-settled k (n ∷ ns) [] g h = tt
  nodes-settled k (n ∷ ns) (s ∷ ss) g h =
      let after = node_trees as_child (k + 1) ns ss in
      let rest = nodes-settled (k + 1) ns ss (drop-next k nodes n ns g) (drop-next k styles s ss h) in
      let here : tree_at nodes styles k ≡ box_with (node_box k n s) (children_of as_child k after) =
      ap (λ r. first_tree (node_trees as_child k r (drop k styles))) g ∙ ap (λ r. first_tree (node_trees as_child k (n ∷ ns) r)) h in
      (box-settled k (node_box k n s) n (children_of as_child k after) (is-node_box k n s) here (children-settled k after rest), others-settled k after rest)

  first-settled : (ns : List NodeTree) → AllSettled ns → IsSettledTree (first_tree ns)
  first-settled [] s = tt
  first-settled (n ∷ ns) s = s.0

  pub tree-settled : (k : ℕ) (o : Option Tree) → tree_at nodes styles k ≡ o → IsSettledTree o
  tree-settled k o h = subst IsSettledTree h (first-settled (node_trees as_child k (drop k nodes) (drop k styles)) (nodes-settled k (drop k nodes) (drop k styles) refl refl))
