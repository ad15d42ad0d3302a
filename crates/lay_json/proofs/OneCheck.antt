-- Bytes say one check.
use Rattle.std.proofs.Common.{◌≡◌, ℕ, List, length, ◌≤◌, sym, ap, ◌∙◌, arith, Some, Result, Ok, Err, codes}
use Rattle.std.specs.Prelude.{ok_or}
use Rattle.serde_json.specs.Data.{Data, null, boolean, number, string, array, object}
use Rattle.serde_json.specs.Find.{get}
use Rattle.serde_json.specs.Read.{read}
use Rattle.lay_run.specs.Runs.{Run}
use Rattle.lay_json.specs.declared.fault.Field.TheVariants.{Run as run_field, Report}
use Rattle.lay_json.specs.declared.fault.Spot.TheVariants.{Run as in_run}
use Rattle.lay_json.specs.declared.fault.InputFault.{InputFault}
use Rattle.lay_json.specs.declared.fault.InputFault.TheVariants.{TooLong, Missing}
use Rattle.lay_json.specs.declared.check_in.CheckIn.{CheckIn}
use Rattle.lay_json.specs.declared.sheet_in.SheetIn.{SheetIn}
use Rattle.lay_json.specs.Fields.{then_read, map_read, text_of}
use Rattle.lay_json.specs.SheetNames.{input_of}
use Rattle.lay_json.specs.CheckDocuments.{check_of, report_in, run_in}
use Rattle.lay_json.specs.Reading.{HoldsBoth, IsInput, IsRunReading, too_long, bad_json, json, no_run, with_run, check_too_long, check_bad_json, check_json}
use Rattle.lay_json.specs.Laws.{OneCheck, RunsReadBesideReports}
use Rattle.lay_json.proofs.OneInput.{input_read, one_in}
use Rattle.lay_json.proofs.OneReading.{no_json, one-some}

pub one_check_lem : OneCheck
one_check_lem bytes a b (check_too_long l p) (check_too_long m q) = p ∙ sym q
one_check_lem bytes a b (check_too_long l p) (check_bad_json m n q) = absurd (omega (arith, l, m))
one_check_lem bytes a b (check_too_long l p) (check_json v m i q) = absurd (omega (arith, l, m))
one_check_lem bytes a b (check_bad_json l n p) (check_too_long m q) = absurd (omega (arith, l, m))
one_check_lem bytes a b (check_bad_json l n p) (check_bad_json m o q) = p ∙ sym q
one_check_lem bytes a b (check_bad_json l n p) (check_json v m i q) = absurd (no_json bytes v i n)
one_check_lem bytes a b (check_json v l i p) (check_too_long m q) = absurd (omega (arith, l, m))
one_check_lem bytes a b (check_json v l i p) (check_bad_json m n q) = absurd (no_json bytes v i n)
one_check_lem bytes a b (check_json v l i p) (check_json w m j q) = p ∙ ap check_of (one-some (read bytes) v w i.1 j.1) ∙ sym q

-- what stands beside each other in an object
run_there : (check document : Data) → get (codes "run") check ≡ Some document → run_in check ≡ Ok document
run_there null document e = absurd cc
run_there (boolean b) document e = absurd cc
run_there (number n) document e = absurd cc
run_there (string s) document e = absurd cc
run_there (array ds) document e = absurd cc
run_there (object ms) document e = ap (λ o. ok_or o (Missing run_field in_run)) e

report_there : (check : Data) (report : List ℕ) → get (codes "report") check ≡ Some (string report) → report_in check ≡ Ok report
report_there check report e = ap (λ o. then_read (ok_or o (Missing Report in_run)) (text_of Report in_run)) e

abbrev said : Run → SheetIn → List ℕ → CheckIn
said run sheet report = record { run = run; sheet = sheet; report = report }

check_is : (check document : Data) (run : Run) (sheet : SheetIn) (report : List ℕ) → run_in check ≡ Ok document → input_of document ≡ Ok (run, sheet) → report_in check ≡ Ok report
    → check_of check ≡ Ok (said run sheet report)
check_is check document run sheet report e f g =
    ap (λ r. then_read r (λ d. then_read (input_of d) (λ input. map_read (said input.0 input.1) (report_in check)))) e
    ∙ ap (λ r. then_read r (λ input. map_read (said input.0 input.1) (report_in check))) f
    ∙ ap (map_read (said run sheet)) g

refusal-run : (run : Run) (fault : InputFault) → Ok run ≡ Err fault → ⊥
refusal-run run fault e = absurd cc

-- bytes that say a run aren't too many
few_read : (bytes : List ℕ) (run : Run) → IsRunReading bytes (Ok run) → length bytes ≤ 16777216
few_read bytes run (too_long l p) = absurd (refusal-run run TooLong p)
few_read bytes run (bad_json l n p) = l
few_read bytes run (json v l i p) = l

abbrev saying : Run → SheetIn → Result (Run × SheetIn) InputFault
saying run sheet = Ok (run, sheet)

refusal-input : (run : Run) (sheet : SheetIn) (fault : InputFault) → saying run sheet ≡ Err fault → ⊥
refusal-input run sheet fault e = absurd cc

few_input : (bytes : List ℕ) (run : Run) (sheet : SheetIn) → IsInput bytes (saying run sheet) → length bytes ≤ 16777216
few_input bytes run sheet (no_run fault r p) = absurd (refusal-input run sheet fault p)
few_input bytes run sheet (with_run other names r n p) = few_read bytes other r

pub runs_read_beside_reports_lem : RunsReadBesideReports
runs_read_beside_reports_lem bytes report both run sheet both_in says =
    check_json b.check b.few b.is_check (sym (check_is b.check b.document run sheet report (run_there b.check b.document b.run_at) input (report_there b.check report b.report_at)))
  where
    b : HoldsBoth bytes report both
    b = both_in

    input : input_of b.document ≡ saying run sheet
    input = one_in bytes (input_of b.document) (saying run sheet) (input_read bytes b.document (few_input bytes run sheet says) b.is_document) says
