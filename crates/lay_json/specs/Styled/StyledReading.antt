-- What bytes say with their style sheet: without a sheet the run itself, and with one the run whose document is that of the
-- cascade. The faults of the run come first, then those of the sheet's fields, and last that it has more than 4,096 selectors
-- (I11).
use Rattle.std.specs.Prelude.{ℕ, ◌≡◌, ◌<◌, ◌≤◌, List, Some, None, Result, Ok, Err}
use Rattle.lay_doc.specs.Document.{Document}
use Rattle.lay_cascade.specs.declared.node_names.names.Names.{Names}
use Rattle.lay_sheet.specs.Sheets.{RuleValue, IsSheet, selector_count}
use Rattle.lay_cascade.specs.Styled.Cascade.{IsCascaded}
use Rattle.lay_run.specs.Runs.{Run}
use Rattle.lay_json.specs.declared.fault.InputFault.{InputFault}
use Rattle.lay_json.specs.declared.fault.InputFault.TheVariants.{TooManySelectors}
use Rattle.lay_json.specs.declared.sheet_in.SheetIn.{SheetIn}
use Rattle.lay_json.specs.Reading.{IsInput}
use Rattle.lay_json.specs.Styled.NamesByPlace.{names_by_place}

-- a run whose document these rule sets have styled
pub record IsStyledRun (run : Run) (rules : List RuleValue) (names : List Names) (new : Run) : Type 0 where
  pub doc : Document
  pub cascaded : IsCascaded run.doc rules (names_by_place run.listed names run.doc.nodes) doc
  pub is : new ≡ record { doc = doc; face = run.face; scripts = run.scripts; listed = run.listed }

-- a run, styled by the sheet of a text, or that it has too many selectors
pub data IsStyledBy (run : Run) (text : List ℕ) (names : List Names) (outcome : Result Run InputFault) : Type 0 where
  too_many : (rules : List RuleValue) → IsSheet text rules → 4096 < selector_count rules
      → outcome ≡ Err TooManySelectors → IsStyledBy run text names outcome
  by_sheet : (rules : List RuleValue) (new : Run) → IsSheet text rules → selector_count rules ≤ 4096
      → IsStyledRun run rules names new → outcome ≡ Ok new →
      IsStyledBy run text names outcome

-- a run, styled by its sheet where it has one, or that the sheet has too many selectors
pub data IsStyledInput (run : Run) (sheet : SheetIn) (outcome : Result Run InputFault) : Type 0 where
  plain : sheet.sheet ≡ None → outcome ≡ Ok run → IsStyledInput run sheet outcome
  with_sheet : (text : List ℕ) → sheet.sheet ≡ Some text → IsStyledBy run text sheet.names outcome → IsStyledInput run sheet outcome

-- the bytes say this run, or have this first fault
pub data IsStyledReading (bytes : List ℕ) (outcome : Result Run InputFault) : Type 0 where
  refused : (fault : InputFault) → IsInput bytes (Err fault) → outcome ≡ Err fault → IsStyledReading bytes outcome
  read : (run : Run) (sheet : SheetIn) → IsInput bytes (Ok (run, sheet)) → IsStyledInput run sheet outcome → IsStyledReading bytes outcome
