-- The boxes of all contexts in one walk over a document's nodes, from the last to the first. What is known on the way: the trees
-- of the nodes behind, and the boxes of the contexts among them.
use Rattle.std.specs.Prelude.{ℕ, ◌≡◌, ◌<◌, ◌≤◌, Bool, false, List, Option, None, Some, drop, length, map, option_map, reverse, slice_index}
use Rattle.lay_style.specs.declared.style.Style.{Style}
use Rattle.lay_doc.specs.declared.node.Node.{Node}
use Rattle.lay_boxgen.specs.Boxes.{Tree, facts_of}
use Rattle.lay_box_tree.specs.declared.box_tree.BoxNode.{BoxNode}
use Rattle.lay_boxgen.specs.CutTrees.{as_leaf}
use Rattle.lay_boxgen.specs.Listing.{listed_part}
use Rattle.lay_boxgen.specs.NodeTrees.{node_trees}
use Rattle.lay_boxgen.specs.Parts.{is_closed, part}
use Rattle.lay_boxgen.specs.declared.node_trees.NodeTree.{NodeTree}

-- trees of nodes as their parents have them
abbrev pub as_leaves : List NodeTree → List NodeTree
as_leaves ns = map (λ n. record { parent = n.parent; tree = option_map as_leaf n.tree }) ns

-- this is the tree of a context
abbrev pub is_context_tree : Option Tree → Bool
is_context_tree None = false
is_context_tree (Some t) = is_closed (facts_of t)

-- the boxes of the contexts of the nodes at these places
abbrev pub boxes_at_places : List Node → List Style → List ℕ → List (List BoxNode)
boxes_at_places nodes styles places = map (λ k. listed_part nodes styles (part nodes styles k)) places

abbrev pub Rise : List ℕ → Type 0
Rise places = (i j : ℕ) → i < j → j < length places → slice_index places i < slice_index places j

-- the nodes from the place n on are walked over, and so many of the places are left
pub record IsWalkedTo (nodes : List Node) (styles : List Style) (places : List ℕ) (n : ℕ)
    (stack : List NodeTree) (boxes : List (List BoxNode)) (left : ℕ) : Type 0 where
  pub trees : as_leaves (reverse stack) ≡ as_leaves (node_trees as_leaf n (drop n nodes) (drop n styles))
  pub made : reverse boxes ≡ boxes_at_places nodes styles (drop left places)
  pub few : left ≤ length places
  pub before : (j : ℕ) → j < left → slice_index places j < n
