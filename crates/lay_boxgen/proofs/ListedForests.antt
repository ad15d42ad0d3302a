-- The parents of listed boxes are those of trees that stand one behind the other.
use Rattle.std.proofs.Common.{ℕ, ◌+◌, ◌≤◌, List, [], ◌∷◌, length, arith}
use Rattle.lay_style.specs.declared.style.Style.{Style}
use Rattle.lay_doc.specs.declared.node.Node.{Node}
use Rattle.lay_box_tree.specs.BoxColumns.{box_parents}
use Rattle.lay_boxgen.proofs.Cited.{append, grow, IsForest, none, parents-append, whole}
use Rattle.lay_box_tree.proofs.BoxForests.{length-parents}
use Rattle.lay_boxgen.specs.Boxes.{Tree, Trees, tree, no_trees, also, trees_of, facts_of}
use Rattle.lay_boxgen.specs.declared.facts.Facts.{Facts}
use Rattle.lay_boxgen.specs.Listing.{listed, all_listed}
use Rattle.lay_boxgen.specs.TreeLaws.{BoxesAreATree}

mutual
  tree_forest : (nodes : List Node) (styles : List Style) (above : Facts) (parent at : ℕ) (t : Tree) → parent ≤ at → IsForest parent at (box_parents (listed nodes styles above parent at t))
  tree_forest nodes styles above parent at (tree f children) le =
      grow parent at (box_parents (all_listed nodes styles f at (at + 1) children)) (trees_forest nodes styles f at (at + 1) children (omega arith))

  trees_forest : (nodes : List Node) (styles : List Style) (above : Facts) (parent at : ℕ) (ts : Trees) → parent ≤ at → IsForest parent at (box_parents (all_listed nodes styles above parent at ts))
  trees_forest nodes styles above parent at no_trees le = none parent at
  trees_forest nodes styles above parent at (also t ts) le =
      let first = tree_forest nodes styles above parent at t le in
      let count = length-parents (listed nodes styles above parent at t) in
      let rest : IsForest parent (at + length (box_parents (listed nodes styles above parent at t))) (box_parents (all_listed nodes styles above parent (at + length (listed nodes styles above parent at t)) ts)) =
      rw count (trees_forest nodes styles above parent (at + length (listed nodes styles above parent at t)) ts (omega arith)) in
      rw (parents-append (listed nodes styles above parent at t) (all_listed nodes styles above parent (at + length (listed nodes styles above parent at t)) ts))
      (append parent at (box_parents (listed nodes styles above parent at t)) (box_parents (all_listed nodes styles above parent (at + length (listed nodes styles above parent at t)) ts)) le first rest)

pub boxes_are_a_tree_lem : BoxesAreATree
boxes_are_a_tree_lem nodes styles [] = whole [] (none 0 0)
boxes_are_a_tree_lem nodes styles (t ∷ ts) = whole _ (trees_forest nodes styles (facts_of t) 0 0 (trees_of (t ∷ ts)) (omega arith))
