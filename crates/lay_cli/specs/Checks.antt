-- Which line answers `check`: the verdict on the report that stands beside a run document.
use Rattle.std.specs.Prelude.{ℕ, ◌≡◌, ◌≢◌, List, Option, IfSome, Ok, Err}
use Rattle.lay_json.specs.declared.fault.InputFault.{InputFault}
use Rattle.lay_json.specs.declared.fault.InputFault.TheVariants.{NoMemory}
use Rattle.lay_json.specs.Styled.StyledChecks.{IsStyledCheck}
use Rattle.lay_audit.specs.declared.verdict.Verdict.{Verdict}
use Rattle.lay_audit.specs.Check.Judging.{IsJudged, verdict_line}
use Rattle.lay_cli.specs.Refusals.{fault_line}
use Rattle.lay_cli.specs.declared.check_input.CheckInput.{CheckInput}
use Rattle.lay_cli.specs.declared.check_input.CheckInput.TheVariants.{Asked, Refusal}

-- the text is the line of the verdict on the report that the bytes spell, where they are told
pub record IsVerdictReport (left : Option (List ℕ)) (text : List ℕ) : Type 0 where
  pub verdict : Verdict
  pub text_is : text ≡ verdict_line verdict
  pub judged : IfSome left (λ bytes. IsJudged bytes verdict)

-- why the bytes of a check are refused, and the line that says so
pub record IsCheckRefusal (bytes line : List ℕ) : Type 0 where
  pub fault : InputFault
  pub named : fault ≢ NoMemory
  pub reading : IsStyledCheck bytes (Err fault)
  pub line_is : line ≡ fault_line fault

-- what was read of the bytes: the check that they spell, or why they are refused
abbrev pub IsCheckInput : List ℕ → CheckInput → Type 0
IsCheckInput bytes (Asked check) = IsStyledCheck bytes (Ok check)
IsCheckInput bytes (Refusal line) = IsCheckRefusal bytes line

-- the line for a fault, which isn't that memory ran out
abbrev pub IsFaultOfCheck : InputFault → CheckInput → Type 0
IsFaultOfCheck fault (Asked check) = ⊥
IsFaultOfCheck fault (Refusal line) = (fault ≢ NoMemory) × (line ≡ fault_line fault)

abbrev pub IsAsked : CheckInput → Type 0
IsAsked (Asked check) = Unit {0}
IsAsked (Refusal line) = ⊥
