-- How a call that judges a report ends, and what bytes that have a fault give.
use Rattle.std.proofs.Common.{◌≡◌, ◌≢◌, ℕ, ◌<◌, List, length, codes, Option, Some, None, IfSome, Ok, Err, Result, IfOk}
use Rattle.lay_units.specs.declared.memory.NoMemory.{NoMemory}
use Rattle.lay_json.specs.declared.fault.InputFault.{InputFault}
use Rattle.lay_json.specs.declared.fault.InputFault.TheVariants.{TooLong, NoMemory as ran_out}
use Rattle.lay_json.specs.declared.styled.check.Check.{Check}
use Rattle.lay_json.specs.Styled.StyledChecks.{IsStyledCheck}
use Rattle.lay_cli.proofs.Cited.{check_too_long_lem}
use Rattle.lay_core.specs.State.{State}
use Rattle.lay_words.specs.declared.form.Form.TheVariants as form
use Rattle.lay_cli.specs.declared.check_input.CheckInput.{CheckInput}
use Rattle.lay_cli.specs.declared.check_input.CheckInput.TheVariants.{Asked, Refusal}
use Rattle.lay_cli.specs.Answers.{Reports}
use Rattle.lay_audit.specs.Check.Judging.{IsJudged, IsVerdictOn}
use Rattle.lay_cli.specs.Checks.{IsCheckInput, IsFaultOfCheck}

-- the verdict on a check is the one on the bytes that spell it
pub check_reports : (left : Option (List ℕ)) (check : Check) → IfSome left (λ bytes. IsStyledCheck bytes (Ok check))
    → (core : Option State) (text : List ℕ) → (core ≡ None) × IsVerdictOn check text → Reports form.Check left core text
check_reports left check spells core text is = (is.0, record { verdict = is.1.verdict; text_is = is.1.text_is; judged = of_bytes left spells })
  where
    of_bytes : (o : Option (List ℕ)) → IfSome o (λ bytes. IsStyledCheck bytes (Ok check)) → IfSome o (λ bytes. IsJudged bytes is.1.verdict)
    of_bytes None s = tt
    of_bytes (Some bytes) s = record { check = check; spells = s; is = is.1.is }

-- what a fault gives, the bytes give that have it
pub check_of_fault : (bytes : List ℕ) (fault : InputFault) (result : Result CheckInput NoMemory) → (fault ≢ ran_out → IsStyledCheck bytes (Err fault)) → IfOk result (IsFaultOfCheck fault) → IfOk result (IsCheckInput bytes)
check_of_fault bytes fault (Ok (Asked check)) reading is = absurd is
check_of_fault bytes fault (Ok (Refusal line)) reading is = record { fault = fault; named = is.0; reading = reading is.0; line_is = is.1 }
check_of_fault bytes fault (Err e) reading is = tt

-- too many bytes are refused
pub too_many_to_check : (left : Option (List ℕ)) (line : List ℕ) → IfSome left (λ all. 16777216 < length all) → line ≡ codes "refused I1\n" → IfSome left (λ bytes. IsCheckInput bytes (Refusal line))
too_many_to_check None line over is = tt
too_many_to_check (Some bytes) line over is = record { fault = TooLong; named = λ e. absurd cc; reading = check_too_long_lem bytes over; line_is = is }
