use Rattle.std.proofs.Common.{◌≡◌, ◌++◌}
use Rattle.lay_boxgen.specs.Boxes.{trees_of, all_remade}
use Rattle.lay_boxgen.proofs.subtree.+remake.Given as goal

-- what is made so far, and what the rest becomes, is what all becomes
abbrev pub invariant-remake_all-loop-tree : goal.invariant-remake_all-loop-tree
invariant-remake_all-loop-tree g l = l.out.items ++ all_remade g.R.BoxRule.made (trees_of l.tree-iterator.rest.items) ≡ all_remade g.R.BoxRule.made (trees_of l.fn.trees.items)
