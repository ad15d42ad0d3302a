use Rattle.lay_context.specs.Settling.{AreDone, BeforeTurn}
use Rattle.lay_context.proofs.layout.measure_all.Given as goal

abbrev pub invariant-loop-done : goal.invariant-loop-done
invariant-loop-done l = AreDone l.plan.medium.now l.plan.contexts.now l.known (BeforeTurn l.plan.levels.now l.done)
