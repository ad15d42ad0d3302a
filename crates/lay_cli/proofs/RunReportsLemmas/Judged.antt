-- The verdict on a core's report.
use Rattle.std.proofs.Common.{◌≡◌, ℕ, List, subst, Ok, Result}
use Rattle.lay_doc.specs.Document.{Document}
use Rattle.lay_history.specs.declared.edits.command.Cmd.{Cmd}
use Rattle.lay_face.specs.FaceValue.{FaceValue}
use Rattle.lay_run.specs.Runs.{Run}
use Rattle.lay_report.specs.Report.{run_report}
use Rattle.lay_json.specs.declared.fault.InputFault.{InputFault}
use Rattle.lay_json.specs.declared.styled.check.Check.{Check}
use Rattle.lay_json.specs.Styled.StyledChecks.{IsStyledCheck}
use Rattle.lay_json.specs.Styled.Laws.{OneStyledCheck, RunsAreStyledBesideReports}
use Rattle.lay_core.specs.State.{State}
use Rattle.lay_audit.specs.declared.verdict.Verdict.{Verdict}
use Rattle.lay_audit.specs.declared.verdict.Verdict.TheVariants.{Yes}
use Rattle.lay_audit.specs.LegalReports.{Basis, IsLegalReport}
use Rattle.lay_audit.specs.Laws.{OneVerdict}
use Rattle.lay_audit.specs.Verdicts.{IsVerdict}
use Rattle.lay_audit.specs.Check.Judging.{IsJudged, basis_in}
use Rattle.lay_cli.specs.RunReports.Laws.{IsOfRun, RunReportsAreLegal, RunReportsAreYes}

abbrev based : Document → FaceValue → List (List Cmd) → Basis
based init face scripts = record { init = init; face = face; scripts = scripts }

abbrev said : Check → Result Check InputFault
said check = Ok check

same_check : (a b : Check) → said a ≡ said b → a ≡ b
same_check a b is = cc

module _ (legal : RunReportsAreLegal) (one : OneVerdict) (one_check : OneStyledCheck) (beside : RunsAreStyledBesideReports) where
  legal_of_run : (s : State) (run : Run) → IsOfRun s run → IsLegalReport (basis_in run) (run_report s.history s.trees s.laid)
  legal_of_run s run has =
      subst (λ d. IsLegalReport (based d run.face run.scripts) (run_report s.history s.trees s.laid)) has.init
      (subst (λ f. IsLegalReport (based s.init f run.scripts) (run_report s.history s.trees s.laid)) has.face (legal s run.scripts has.answered))

  pub run_reports_are_yes : RunReportsAreYes
  run_reports_are_yes s run bytes both has reads holds = (record { check = check; spells = spells }, yes)
    where
      report : List ℕ
      report = run_report s.history s.trees s.laid

      check : Check
      check = record { run = run; report = report }

      spells : IsStyledCheck both (Ok check)
      spells = beside bytes report both run holds reads

      yes : (verdict : Verdict) → IsJudged both verdict → verdict ≡ Yes
      yes verdict j =
          let same = same_check j.check check (one_check both (Ok j.check) (Ok check) j.spells spells) in
          one (basis_in run) report verdict Yes
          (subst (λ (z : Check). IsVerdict (basis_in z.run) z.report verdict) same j.is) (legal_of_run s run has)
