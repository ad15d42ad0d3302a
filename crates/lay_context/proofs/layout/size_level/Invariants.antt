use Rattle.std.proofs.Common.{◌+◌, length}
use Rattle.lay_context.specs.Needs.{round_start}
use Rattle.lay_context.specs.Settling.{AreDone, BeforeTurn}
use Rattle.lay_context.proofs.layout.size_level.Given as goal

abbrev pub invariant-loop-i : goal.invariant-loop-i
invariant-loop-i l = AreDone l.plan.medium.now l.plan.contexts.now l.known (BeforeTurn l.plan.levels.now (round_start (length l.plan.contexts.now) l.level + l.i))
