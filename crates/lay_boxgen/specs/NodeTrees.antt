-- From a document to a tree of boxes, before any rule: each node's box, with the boxes of its children in it.
use Rattle.std.specs.Prelude.{ℕ, ◌+◌, ◌==◌, true, false, List, [], ◌∷◌, drop, if◌then◌else◌, Option, None, Some}
use Rattle.lay_style.specs.declared.style.Style.{Style}
use Rattle.lay_doc.specs.declared.node.Node.{Node}
use Rattle.lay_boxgen.specs.Boxes.{Tree, tree, trees_of, no_trees, also}
use Rattle.lay_boxgen.specs.Forms.{is_absolute}
use Rattle.lay_boxgen.specs.NodeBoxes.{node_box}
use Rattle.lay_boxgen.specs.declared.facts.Facts.{Facts}
use Rattle.lay_box_tree.specs.declared.box_tree.Flow.TheVariants.{Absolute}
use Rattle.lay_boxgen.specs.declared.facts.Form.TheVariants.{Anchor}
use Rattle.lay_boxgen.specs.declared.node_trees.NodeTree.{NodeTree}

-- the box of a context, seen from inside
abbrev pub as_own : Facts → Facts
as_own f = record f { inner = false }

-- the anchor of an absolute or fixed box, which stands where the box would stand in flow
abbrev pub anchor_facts : Facts → Facts
anchor_facts f = record f { form = Anchor; flow = Absolute; inner = true }

-- a node's tree as its parent has it: an absolute or fixed box stands alone in its anchor
abbrev pub as_child : Tree → Tree
as_child (tree f children) =
    if is_absolute f.flow then tree (anchor_facts f) (also (tree (as_own f) children) no_trees) else tree f children

-- In what follows `seen` says how a parent has the tree of a child.
abbrev pub and_child : (Tree → Tree) → Option Tree → List Tree → List Tree
and_child seen None ts = ts
and_child seen (Some t) ts = seen t ∷ ts

-- The children of the node at k, and the other nodes, among those that have no parent between k and
-- themselves: the children stand first, for the nodes of a subtree stand together.
abbrev pub children_of : (Tree → Tree) → ℕ → List NodeTree → List Tree
children_of seen k [] = []
children_of seen k (n ∷ ns) = if n.parent == k then and_child seen n.tree (children_of seen k ns) else []

abbrev pub others_than_children : ℕ → List NodeTree → List NodeTree
others_than_children k [] = []
others_than_children k (n ∷ ns) = if n.parent == k then others_than_children k ns else n ∷ ns

-- a box with these children, where there is one: `display: none` takes what is below along
abbrev pub box_with : Option Facts → List Tree → Option Tree
box_with None children = None
box_with (Some f) children = Some (tree f (trees_of children))

-- the node at k with its children, before the others
abbrev pub with_node_tree : (Tree → Tree) → ℕ → Node → Style → List NodeTree → List NodeTree
with_node_tree seen k n s after =
    record { parent = n.parent; tree = box_with (node_box k n s) (children_of seen k after) } ∷ others_than_children k after

-- The trees of these nodes, which stand from the place k on: of each that has no parent among them, in order.
abbrev pub node_trees : (Tree → Tree) → ℕ → List Node → List Style → List NodeTree
node_trees seen k [] ss = []
node_trees seen k (n ∷ ns) [] = []
node_trees seen k (n ∷ ns) (s ∷ ss) = with_node_tree seen k n s (node_trees seen (k + 1) ns ss)

abbrev pub first_tree : List NodeTree → Option Tree
first_tree [] = None
first_tree (n ∷ ns) = n.tree

-- the tree of the node at k: of the nodes from there on it is the first
abbrev pub tree_at : List Node → List Style → ℕ → Option Tree
tree_at nodes styles k = first_tree (node_trees as_child k (drop k nodes) (drop k styles))
