use Rattle.std.proofs.Common.{◌<◌, ℕ}
use Rattle.lay_history.specs.declared.edits.command.Reply.{Reply}
use Rattle.lay_audit.specs.declared.step.Step.TheVariants as step
use Rattle.lay_audit.specs.NextLines.{StandsNot}
use Rattle.lay_audit.proofs.finding.find_step.Given as goal

abbrev pub invariant-loop-place : goal.invariant-loop-place
invariant-loop-place l = (k : ℕ) → k < l.place → (r : Reply) → StandsNot l.scripts l.present l.rest (step.Answer k r)
