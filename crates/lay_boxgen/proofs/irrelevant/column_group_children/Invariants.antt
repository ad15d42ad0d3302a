use Rattle.std.proofs.Common.{◌≡◌, ◌++◌}
use Rattle.lay_boxgen.specs.Irrelevant.{column_group_children}
use Rattle.lay_boxgen.proofs.irrelevant.column_group_children.Given as goal

abbrev pub invariant-loop-child : goal.invariant-loop-child
invariant-loop-child l = l.columns.items ++ column_group_children l.child-iterator.rest.items ≡ column_group_children l.fn.children.items
