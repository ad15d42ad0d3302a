use Rattle.std.proofs.Common.{◌≡◌, ◌++◌}
use Rattle.lay_boxgen.specs.Runs.{gathered, gathered_from}
use Rattle.lay_boxgen.proofs.runs.gather.Given as goal

-- what is done, and what the open run and the rest become, is what all becomes
abbrev pub invariant-loop-child : goal.invariant-loop-child
invariant-loop-child g l =
    l.gathering.done.items ++ gathered_from (g.R.RunRule.faulty l.rule) (g.R.RunRule.closed l.rule) l.gathering.run.items l.gathering.gap.items l.child-iterator.rest.items
    ≡ gathered (g.R.RunRule.faulty l.rule) (g.R.RunRule.closed l.rule) l.fn.children.items
