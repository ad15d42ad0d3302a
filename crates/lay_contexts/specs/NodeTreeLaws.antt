-- The tree of boxes that generation starts from (9.2), node by node: a node's box has in it the trees of the node's children,
-- in document order, each as a parent has it. A node without a box has no tree, whatever is below it, for `display: none`
-- takes its descendants along (9.2.4). So the tree of each node is determined by those of the nodes behind it.
use Rattle.std.specs.Prelude.{ℕ, zero, suc, ◌≡◌, ◌+◌, ◌-◌, ◌<◌, ◌==◌, List, [], ◌∷◌, length, filter, slice_index}
use Rattle.lay_style.specs.declared.style.Style.{Style}
use Rattle.lay_doc.specs.declared.node.Node.{Node}
use Rattle.lay_doc.specs.Document.{Document, IsDocument, parents_of}
use Rattle.lay_boxgen.specs.Boxes.{Tree}
use Rattle.lay_boxgen.specs.Contexts.{box_at}
use Rattle.lay_boxgen.specs.NodeTrees.{and_child, as_child, box_with, tree_at}

-- so many places in a row
abbrev pub places_from : (at count : ℕ) → List ℕ
places_from at zero = []
places_from at (suc n) = at ∷ places_from (at + 1) n

-- the places of the children of the node at k, which stand behind it
abbrev pub children_places : List Node → ℕ → List ℕ
children_places nodes k = filter (λ c. slice_index (parents_of nodes) c == k) (places_from (k + 1) (length nodes - (k + 1)))

-- the trees of the nodes at these places that have one, as their parent has them
abbrev pub child_trees : List Node → List Style → List ℕ → List Tree
child_trees nodes styles [] = []
child_trees nodes styles (c ∷ cs) = and_child as_child (tree_at nodes styles c) (child_trees nodes styles cs)

abbrev pub ChildrenStandInOrder : Type 0
ChildrenStandInOrder = (d : Document) (styles : List Style) (k : ℕ) → IsDocument d → length styles ≡ length d.nodes → k < length d.nodes
    → tree_at d.nodes styles k ≡ box_with (box_at d.nodes styles k) (child_trees d.nodes styles (children_places d.nodes k))
