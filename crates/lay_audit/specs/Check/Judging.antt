-- What is found of a report that stands beside a run document, and the line that says it.
use Rattle.std.specs.Prelude.{ℕ, ◌≡◌, ◌++◌, List, codes, Ok}
use Rattle.std.specs.Fmt.{decimal}
use Rattle.lay_run.specs.Runs.{Run}
use Rattle.lay_json.specs.declared.styled.check.Check.{Check}
use Rattle.lay_json.specs.Styled.StyledChecks.{IsStyledCheck}
use Rattle.lay_audit.specs.declared.verdict.Verdict.{Verdict}
use Rattle.lay_audit.specs.declared.verdict.Verdict.TheVariants.{Yes, No}
use Rattle.lay_audit.specs.LegalReports.{Basis}
use Rattle.lay_audit.specs.Verdicts.{IsVerdict}

abbrev pub verdict_line : Verdict → List ℕ
verdict_line Yes = codes "yes\n"
verdict_line (No number) = codes "no " ++ decimal number ++ codes "\n"

-- what a report of this run is judged by
abbrev pub basis_in : Run → Basis
basis_in run = record { init = run.doc; face = run.face; scripts = run.scripts }

-- the text is the line of the verdict on the report of a check
pub record IsVerdictOn (check : Check) (text : List ℕ) : Type 0 where
  pub verdict : Verdict
  pub is : IsVerdict (basis_in check.run) check.report verdict
  pub text_is : text ≡ verdict_line verdict

-- the bytes spell a run, which their sheet has styled, and a report
pub record SpellCheck (bytes : List ℕ) : Type 0 where
  pub check : Check
  pub spells : IsStyledCheck bytes (Ok check)

-- and this is the verdict on the report
pub record IsJudged (bytes : List ℕ) (verdict : Verdict) : Type 0 where
  pub check : Check
  pub spells : IsStyledCheck bytes (Ok check)
  pub is : IsVerdict (basis_in check.run) check.report verdict
