-- What a check is asked of (a JSON value): an object with a run document and a text that is to be its report. The faults are
-- judged in this order: that it is no object (I4 on `check`), that `run` is absent, those of the run with its sheet, at
-- their own places, and those of `report`.
use Rattle.std.specs.Prelude.{ℕ, List, Result}
use Rattle.serde_json.specs.Data.{Data}
use Rattle.lay_json.specs.declared.fault.Field.TheVariants.{Run as run_field, Check, Report}
use Rattle.lay_json.specs.declared.fault.Spot.TheVariants.{Run as in_run}
use Rattle.lay_json.specs.declared.fault.InputFault.{InputFault}
use Rattle.lay_json.specs.declared.check_in.CheckIn.{CheckIn}
use Rattle.lay_json.specs.Fields.{then_read, map_read, required, object_of, required_text}
use Rattle.lay_json.specs.SheetNames.{input_of}

-- the value that is to be a run document
abbrev pub run_in : Data → Result Data InputFault
run_in check = then_read (object_of Check in_run check) (λ members. required run_field in_run check)

-- the text of the report
abbrev pub report_in : Data → Result (List ℕ) InputFault
report_in check = required_text Report in_run check

-- the run with its sheet, and the report
abbrev pub check_of : Data → Result CheckIn InputFault
check_of check =
    then_read (run_in check) (λ run.
    then_read (input_of run) (λ input.
    map_read (λ report. record { run = input.0; sheet = input.1; report = report }) (report_in check)))
