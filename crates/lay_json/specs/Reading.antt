-- What bytes say: more than 16,777,216 are too long (I1); else they are a JSON text (RFC 8259) of a value
-- nested at most 127 deep, or not (I2); and the value is a run document, or has a first fault.
use Rattle.std.specs.Prelude.{ℕ, ◌≡◌, ◌<◌, ◌≤◌, List, codes, length, Some, None, Result, Ok, Err, IsUtf8}
use Rattle.serde_json.specs.Data.{Data, string}
use Rattle.serde_json.specs.Find.{get}
use Rattle.serde_json.specs.Read.{read}
use Rattle.lay_json.specs.declared.fault.InputFault.{InputFault}
use Rattle.lay_json.specs.declared.fault.InputFault.TheVariants.{TooLong, BadJson}
use Rattle.lay_json.specs.declared.sheet_in.SheetIn.{SheetIn}
use Rattle.lay_json.specs.declared.check_in.CheckIn.{CheckIn}
use Rattle.lay_json.specs.Fields.{map_read}
use Rattle.lay_json.specs.RunDocument.{run_of}
use Rattle.lay_json.specs.SheetNames.{sheet_of}
use Rattle.lay_json.specs.CheckDocuments.{check_of}
use Rattle.lay_run.specs.Runs.{Run}

-- the bytes are a JSON text of this value, nested at most 127 deep
abbrev pub IsJson : List ℕ → Data → Type 0
IsJson bytes value = IsUtf8 bytes × (read bytes ≡ Some value)

-- the bytes are no such text
abbrev pub IsNoJson : List ℕ → Type 0
IsNoJson bytes = IsUtf8 bytes → read bytes ≡ None

-- the bytes say this run, or have this first fault
pub data IsRunReading (bytes : List ℕ) (outcome : Result Run InputFault) : Type 0 where
  too_long : 16777216 < length bytes → outcome ≡ Err TooLong → IsRunReading bytes outcome
  bad_json : length bytes ≤ 16777216 → IsNoJson bytes → outcome ≡ Err BadJson → IsRunReading bytes outcome
  json : (value : Data) → length bytes ≤ 16777216 → IsJson bytes value → outcome ≡ run_of value → IsRunReading bytes outcome

-- the bytes say this sheet with these names, or have this first fault of theirs
pub data AreNames (bytes : List ℕ) (outcome : Result SheetIn InputFault) : Type 0 where
  names_too_long : 16777216 < length bytes → outcome ≡ Err TooLong → AreNames bytes outcome
  names_bad_json : length bytes ≤ 16777216 → IsNoJson bytes → outcome ≡ Err BadJson → AreNames bytes outcome
  names_json : (value : Data) → length bytes ≤ 16777216 → IsJson bytes value → outcome ≡ sheet_of value → AreNames bytes outcome

-- the bytes say this run with this sheet, or have this first fault: all faults of the run come before those of the sheet
pub data IsInput (bytes : List ℕ) (outcome : Result (Run × SheetIn) InputFault) : Type 0 where
  no_run : (fault : InputFault) → IsRunReading bytes (Err fault) → outcome ≡ Err fault → IsInput bytes outcome
  with_run : (run : Run) (names : Result SheetIn InputFault) → IsRunReading bytes (Ok run) → AreNames bytes names →
      outcome ≡ map_read (λ sheet. (run, sheet)) names → IsInput bytes outcome

-- the bytes are of an object that holds the run document which other bytes are of, and this report
pub record HoldsBoth (bytes report both : List ℕ) : Type 0 where
  pub document : Data
  pub check : Data
  pub is_document : IsJson bytes document
  pub is_check : IsJson both check
  pub few : length both ≤ 16777216
  pub run_at : get (codes "run") check ≡ Some document
  pub report_at : get (codes "report") check ≡ Some (string report)

-- the bytes say this check, or have this first fault
pub data IsCheck (bytes : List ℕ) (outcome : Result CheckIn InputFault) : Type 0 where
  check_too_long : 16777216 < length bytes → outcome ≡ Err TooLong → IsCheck bytes outcome
  check_bad_json : length bytes ≤ 16777216 → IsNoJson bytes → outcome ≡ Err BadJson → IsCheck bytes outcome
  check_json : (value : Data) → length bytes ≤ 16777216 → IsJson bytes value → outcome ≡ check_of value → IsCheck bytes outcome
