use Rattle.std.proofs.Common.{◌≡◌, ◌-◌, ◌+◌, reverse, drop}
use Rattle.lay_boxgen.specs.CutTrees.{as_leaf}
use Rattle.lay_boxgen.specs.NodeTrees.{node_trees}
use Rattle.lay_boxgen.proofs.node_trees.grow.Given as goal

-- the trees of the nodes that are done, which are the last ones
abbrev pub invariant-loop-done : goal.invariant-loop-done
invariant-loop-done l =
    reverse l.stack.items ≡ node_trees as_leaf (l.first + (l.count - l.done)) (drop (l.count - l.done) l.nodes) (drop (l.count - l.done) l.styles)
