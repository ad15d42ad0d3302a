use Rattle.std.proofs.Common.{◌≡◌, drop}
use Rattle.lay_boxgen.specs.Boxes.{trees_of, all_remade}
use Rattle.lay_boxgen.proofs.subtree.+keeps.Given as goal

-- all stay as they are, where the rest does
abbrev pub invariant-keeps_all-loop-tree : goal.invariant-keeps_all-loop-tree
invariant-keeps_all-loop-tree g l =
    all_remade g.R.BoxRule.made (trees_of (drop l.tree-index l.trees)) ≡ drop l.tree-index l.trees → all_remade g.R.BoxRule.made (trees_of l.trees) ≡ l.trees
