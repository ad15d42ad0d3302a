-- What bytes say of a run document beside a report: the run, styled by its sheet, and the report. The faults of the object come
-- first, and last that the sheet has more than 4,096 selectors (I11).
use Rattle.std.specs.Prelude.{ℕ, ◌≡◌, List, Result, Ok, Err}
use Rattle.lay_run.specs.Runs.{Run}
use Rattle.lay_json.specs.declared.fault.InputFault.{InputFault}
use Rattle.lay_json.specs.declared.check_in.CheckIn.{CheckIn}
use Rattle.lay_json.specs.Fields.{map_read}
use Rattle.lay_json.specs.Reading.{IsCheck}
use Rattle.lay_json.specs.declared.styled.check.Check.{Check}
use Rattle.lay_json.specs.Styled.StyledReading.{IsStyledInput}

-- the run of a check is styled by its sheet, and the report is as it is
pub record IsCheckStyled (check : CheckIn) (outcome : Result Check InputFault) : Type 0 where
  pub run : Result Run InputFault
  pub styled : IsStyledInput check.run check.sheet run
  pub is : outcome ≡ map_read (λ r. record { run = r; report = check.report }) run

-- the bytes say this check, or have this first fault
pub data IsStyledCheck (bytes : List ℕ) (outcome : Result Check InputFault) : Type 0 where
  check_refused : (fault : InputFault) → IsCheck bytes (Err fault) → outcome ≡ Err fault → IsStyledCheck bytes outcome
  check_read : (check : CheckIn) → IsCheck bytes (Ok check) → IsCheckStyled check outcome → IsStyledCheck bytes outcome
