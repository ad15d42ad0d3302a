-- The trees of a context's part from the start: a parent has the boxes of inner contexts and anchors alone.
use Rattle.std.specs.Prelude.{ℕ, ◌==◌, Bool, false, Option, None, Some, List, [], ◌∷◌, if◌then◌else◌, option_map}
use Rattle.lay_style.specs.declared.style.Style.{Style}
use Rattle.lay_doc.specs.declared.node.Node.{Node}
use Rattle.lay_boxgen.specs.Boxes.{Tree, tree, no_trees}
use Rattle.lay_boxgen.specs.Forms.{is_absolute}
use Rattle.lay_boxgen.specs.Generation.{generated}
use Rattle.lay_boxgen.specs.NodeTrees.{anchor_facts, tree_at}
use Rattle.lay_boxgen.specs.Parts.{is_closed, all_put, nothing, own_tree}
use Rattle.lay_boxgen.specs.declared.node_trees.NodeTree.{NodeTree}

-- the tree of a node as its parent has it in a part
abbrev pub as_leaf : Tree → Tree
as_leaf (tree f children) =
    if is_absolute f.flow then tree (anchor_facts f) no_trees
    else (if is_closed f then tree f no_trees else tree f children)

-- the first of these is a child of the node at k
abbrev pub is_child_first : ℕ → List NodeTree → Bool
is_child_first k [] = false
is_child_first k (n ∷ ns) = n.parent == k

-- a tree with nothing inside the boxes of inner contexts that are below its own box
abbrev pub cut_tree : Tree → Tree
cut_tree (tree f children) = tree f (all_put nothing children)

abbrev pub cut_trees : List NodeTree → List NodeTree
cut_trees [] = []
cut_trees (n ∷ ns) = record { parent = n.parent; tree = option_map cut_tree n.tree } ∷ cut_trees ns

-- the tree of a context as its part has it
abbrev pub cut_own : Tree → Tree
cut_own t = own_tree (cut_tree t)

abbrev pub cut_tree_at : List Node → List Style → ℕ → Option Tree
cut_tree_at nodes styles k = option_map cut_own (tree_at nodes styles k)

-- what is generated of such a tree
abbrev pub generated_cut : Option Tree → List Tree
generated_cut None = []
generated_cut (Some t) = generated t
