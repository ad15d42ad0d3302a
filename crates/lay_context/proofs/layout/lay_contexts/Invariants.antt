use Rattle.std.proofs.Common.{length}
use Rattle.lay_context.specs.Needs.{round_start}
use Rattle.lay_context.specs.Settling.{AreDone, BeforeTurn}
use Rattle.lay_context.proofs.layout.lay_contexts.Given as goal

abbrev pub invariant-loop-level : goal.invariant-loop-level
invariant-loop-level l = AreDone l.plan.medium.now l.plan.contexts.now l.known (BeforeTurn l.plan.levels.now (round_start (length l.plan.contexts.now) l.level))
