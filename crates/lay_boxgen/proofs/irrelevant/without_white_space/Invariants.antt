use Rattle.std.proofs.Common.{◌≡◌, ◌++◌}
use Rattle.lay_boxgen.specs.Irrelevant.{kept_from, without_white_space}
use Rattle.lay_boxgen.proofs.irrelevant.without_white_space.Given as goal

abbrev pub invariant-loop-child : goal.invariant-loop-child
invariant-loop-child l =
    l.sifting.kept.items ++ kept_from l.parent l.sifting.before l.sifting.gap.items l.child-iterator.rest.items ≡ without_white_space l.parent l.fn.children.items
