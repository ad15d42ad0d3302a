use Rattle.std.proofs.Common.{◌≡◌, ◌++◌, reverse, vec_len}
use Rattle.lay_boxgen.specs.CutTrees.{as_leaf}
use Rattle.lay_boxgen.specs.NodeTrees.{children_of, others_than_children}
use Rattle.lay_boxgen.proofs.node_trees.take_children.Given as goal

abbrev pub invariant-loop-alloc : goal.invariant-loop-alloc
invariant-loop-alloc l =
    (l.children.items ++ children_of as_leaf l.place (reverse l.stack.items) ≡ children_of as_leaf l.place (reverse l.fn.stack.items))
    × (others_than_children l.place (reverse l.stack.items) ≡ others_than_children l.place (reverse l.fn.stack.items))

abbrev pub decreases-loop-alloc : goal.decreases-loop-alloc
decreases-loop-alloc l = vec_len l.stack
