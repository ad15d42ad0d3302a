use Rattle.std.proofs.Common.{sym, subst, arith, inl, inr}
use Rattle.std.proofs.lemmas.Bool.{cases_eq, both_ways}
use Rattle.lay_audit.specs.declared.step.Step.TheVariants as step
use Rattle.lay_audit.specs.NextLines.{StandsNot}
use Rattle.lay_audit.proofs.NextReplies.{less_of, no_step}
use Rattle.lay_audit.proofs.finding.find_step.Goals as goal

pub returns-then-branch-clause-some : goal.returns-then-branch-clause-some
returns-then-branch-clause-some c =
    let d = rw c.in_ok-is_publication.was at (c.is_publication.ensures c.args.scripts.now) in d.0 c.if-branch.true

pub loop-place-preserved : goal.loop-place-preserved
loop-place-preserved c = λ k lt r. elim (cases_eq k c.loop-place.place) [
  | inl own ↦ subst (λ j. StandsNot c.args.scripts.now c.args.present.now c.args.rest.now (step.Answer j r)) (sym own) (c.in_ok-reply.ensures.none c.in_default.is r)
  | inr other ↦ c.loop-place.invariant k (less_of k c.loop-place.place lt other) r
]

pub returns-clause-none : goal.returns-clause-none
returns-clause-none c = λ e.
    let d = rw c.in_ok-is_publication.was at (c.is_publication.ensures c.args.scripts.now) in
    no_step c.args.scripts.now c.args.present.now c.args.rest.now (λ s. both_ways c.in_ok-is_publication.field-0 c.if-branch.false (d.1 s))
    (λ k lt r. c.loop-place.invariant k (let over = c.loop-place-test.false in omega (arith, lt, over)) r)
