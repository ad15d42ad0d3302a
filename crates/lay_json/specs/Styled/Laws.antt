-- Bytes have one styled reading, and so have those of a check.
use Rattle.std.specs.Prelude.{ℕ, ◌≡◌, List, Result, Ok}
use Rattle.lay_run.specs.Runs.{Run}
use Rattle.lay_json.specs.declared.fault.InputFault.{InputFault}
use Rattle.lay_json.specs.Reading.{HoldsBoth}
use Rattle.lay_json.specs.declared.styled.check.Check.{Check}
use Rattle.lay_json.specs.Styled.StyledReading.{IsStyledReading}
use Rattle.lay_json.specs.Styled.StyledChecks.{IsStyledCheck}

abbrev pub OneStyledReading : Type 0
OneStyledReading = (bytes : List ℕ) (a b : Result Run InputFault) → IsStyledReading bytes a → IsStyledReading bytes b → a ≡ b

abbrev pub OneStyledCheck : Type 0
OneStyledCheck = (bytes : List ℕ) (a b : Result Check InputFault) → IsStyledCheck bytes a → IsStyledCheck bytes b → a ≡ b

-- a run document is styled alike by itself and beside a report
abbrev pub RunsAreStyledBesideReports : Type 0
RunsAreStyledBesideReports =
    (bytes report both : List ℕ) (run : Run) → HoldsBoth bytes report both → IsStyledReading bytes (Ok run)
    → IsStyledCheck both (Ok (record { run = run; report = report }))
