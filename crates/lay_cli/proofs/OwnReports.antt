-- The reports of `run` are answered `yes`.
use Rattle.std.proofs.Common.{◌≡◌, ◌∙◌, ℕ, List, ap, subst, Some, None}
use Rattle.lay_json.specs.Reading.{HoldsBoth}
use Rattle.lay_core.specs.State.{State}
use Rattle.lay_audit.specs.declared.verdict.Verdict.{Verdict}
use Rattle.lay_audit.specs.declared.verdict.Verdict.TheVariants.{Yes}
use Rattle.lay_audit.specs.Check.Judging.{IsJudged, SpellCheck, verdict_line}
use Rattle.lay_cli.specs.RunReports.Laws.{RunReportsAreYes}
use Rattle.lay_cli.specs.Answers.{IsCoreReport, IsDriven, OfRun}
use Rattle.lay_cli.specs.Laws.{RunReportsAreAnsweredYes}

own : RunReportsAreYes → (bytes report both : List ℕ) (s : State) → IsCoreReport (Some bytes) s report → HoldsBoth bytes report both
    → SpellCheck both × ((verdict : Verdict) → IsJudged both verdict → verdict ≡ Yes)
own judged bytes report both s is holds =
    judged s told.run bytes both
    (record { init = by.init; face = by.face; answered = record { core = by.core; answers = by.scripts; whole = by.whole; within = is.within } })
    told.spells (subst (λ t. HoldsBoth bytes t both) is.text_is holds)
  where
    told : OfRun bytes (λ run. IsDriven run s)
    told = is.driven

    by : IsDriven told.run s
    by = told.holds

pub answered_yes : RunReportsAreYes → RunReportsAreAnsweredYes
answered_yes judged workers bytes report both None reports holds = absurd reports
answered_yes judged workers bytes report both (Some s) reports holds =
    (found.0, λ core line said. said.1.text_is ∙ ap verdict_line (found.1 said.1.verdict said.1.judged))
  where
    found : SpellCheck both × ((verdict : Verdict) → IsJudged both verdict → verdict ≡ Yes)
    found = own judged bytes report both s reports holds
