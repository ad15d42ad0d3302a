-- The trees of a part's nodes are the parts of their trees.
use Rattle.std.proofs.Common.{◌≡◌, ℕ, ◌+◌, ◌==◌, Bool, true, false, List, [], ◌∷◌, refl, ap, sym, ◌∙◌, if◌then◌else◌, Option, None, Some, option_map}
use Rattle.lay_style.specs.declared.style.Style.{Style}
use Rattle.lay_doc.specs.declared.node.Node.{Node}
use Rattle.lay_boxgen.specs.Boxes.{Tree, Trees, tree, no_trees, also}
use Rattle.lay_boxgen.specs.CutTrees.{as_leaf, cut_tree, cut_trees}
use Rattle.lay_boxgen.specs.Forms.{is_absolute}
use Rattle.lay_boxgen.specs.NodeBoxes.{node_box}
use Rattle.lay_boxgen.specs.NodeTrees.{as_own, anchor_facts, as_child, and_child, children_of, others_than_children, box_with, with_node_tree, node_trees, first_tree, tree_at}
use Rattle.lay_boxgen.specs.Parts.{is_closed, put, all_put, put_list, nothing}
use Rattle.lay_boxgen.specs.declared.facts.Facts.{Facts}
use Rattle.lay_boxgen.specs.declared.node_trees.NodeTree.{NodeTree}
use Rattle.lay_boxgen.proofs.Putting.{put-trees_of}

closed_by : (f : Facts) (us : Trees) (b : Bool) → (if b then tree f no_trees else tree f us) ≡ tree f (if b then no_trees else us)
closed_by f us true = refl
closed_by f us false = refl

leaf_by : (f : Facts) (us : Trees) (a : Bool) →
    (if a then tree (anchor_facts f) no_trees else (if is_closed f then tree f no_trees else tree f (all_put nothing us)))
    ≡ put nothing (if a then tree (anchor_facts f) (also (tree (as_own f) us) no_trees) else tree f us)
leaf_by f us true = refl
leaf_by f us false = closed_by f (all_put nothing us) (is_closed f)

leaf-cut : (t : Tree) → as_leaf (cut_tree t) ≡ put nothing (as_child t)
leaf-cut (tree f us) = leaf_by f us (is_absolute f.flow)

child-cut : (o : Option Tree) (ts us : List Tree) → ts ≡ put_list nothing us → and_child as_leaf (option_map cut_tree o) ts ≡ put_list nothing (and_child as_child o us)
child-cut None ts us h = h
child-cut (Some t) ts us h = ap (λ r. r ∷ ts) (leaf-cut t) ∙ ap (λ r. put nothing (as_child t) ∷ r) h

children_by : (n : NodeTree) (k : ℕ) (ns : List NodeTree) → children_of as_leaf k (cut_trees ns) ≡ put_list nothing (children_of as_child k ns) → (b : Bool)
    → (if b then and_child as_leaf (option_map cut_tree n.tree) (children_of as_leaf k (cut_trees ns)) else [])
    ≡ put_list nothing (if b then and_child as_child n.tree (children_of as_child k ns) else [])
children_by n k ns ih true = child-cut n.tree (children_of as_leaf k (cut_trees ns)) (children_of as_child k ns) ih
children_by n k ns ih false = refl

children-cut : (k : ℕ) (ns : List NodeTree) → children_of as_leaf k (cut_trees ns) ≡ put_list nothing (children_of as_child k ns)
children-cut k [] = refl
children-cut k (n ∷ ns) = children_by n k ns (children-cut k ns) (n.parent == k)

others_by : (n : NodeTree) (k : ℕ) (ns : List NodeTree) → others_than_children k (cut_trees ns) ≡ cut_trees (others_than_children k ns) → (b : Bool)
    → (if b then others_than_children k (cut_trees ns) else cut_trees (n ∷ ns)) ≡ cut_trees (if b then others_than_children k ns else n ∷ ns)
others_by n k ns ih true = ih
others_by n k ns ih false = refl

others-cut : (k : ℕ) (ns : List NodeTree) → others_than_children k (cut_trees ns) ≡ cut_trees (others_than_children k ns)
others-cut k [] = refl
others-cut k (n ∷ ns) = others_by n k ns (others-cut k ns) (n.parent == k)

box-cut : (o : Option Facts) (ts : List Tree) → box_with o (put_list nothing ts) ≡ option_map cut_tree (box_with o ts)
box-cut None ts = refl
box-cut (Some f) ts = ap (λ us. Some (tree f us)) (sym (put-trees_of nothing ts))

node-cut : (k : ℕ) (n : Node) (s : Style) (ns : List NodeTree) → with_node_tree as_leaf k n s (cut_trees ns) ≡ cut_trees (with_node_tree as_child k n s ns)
node-cut k n s ns =
    ap (λ t. record { parent = n.parent; tree = t } ∷ others_than_children k (cut_trees ns))
    (ap (box_with (node_box k n s)) (children-cut k ns) ∙ box-cut (node_box k n s) (children_of as_child k ns))
    ∙ ap (λ r. record { parent = n.parent; tree = option_map cut_tree (box_with (node_box k n s) (children_of as_child k ns)) } ∷ r) (others-cut k ns)

pub trees-cut : (k : ℕ) (ns : List Node) (ss : List Style) → node_trees as_leaf k ns ss ≡ cut_trees (node_trees as_child k ns ss)
trees-cut k [] ss = refl
trees-cut k (n ∷ ns) [] = refl
trees-cut k (n ∷ ns) (s ∷ ss) = ap (with_node_tree as_leaf k n s) (trees-cut (k + 1) ns ss) ∙ node-cut k n s (node_trees as_child (k + 1) ns ss)

first-cut : (ns : List NodeTree) → first_tree (cut_trees ns) ≡ option_map cut_tree (first_tree ns)
first-cut [] = refl
first-cut (n ∷ ns) = refl

pub tree-cut : (nodes : List Node) (styles : List Style) (k : ℕ) (ns : List Node) (ss : List Style)
    → first_tree (node_trees as_child k ns ss) ≡ tree_at nodes styles k → first_tree (node_trees as_leaf k ns ss) ≡ option_map cut_tree (tree_at nodes styles k)
tree-cut nodes styles k ns ss h = ap first_tree (trees-cut k ns ss) ∙ (first-cut (node_trees as_child k ns ss) ∙ ap (option_map cut_tree) h)
