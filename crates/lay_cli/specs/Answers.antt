-- Which text answers which words and which bytes.
-- `scratch`, `run` and `hit` read a run document, or else the bytes are refused with one line, for the first fault that they have.
-- The report of `scratch` is that of a tree which solves the document, its editors taken as none. The report of `run` is
-- that of one legal history which answers each editor's commands once and in order, with trees that solve the documents
-- of their versions. `hit` names the piece that is seen at a point, of a tree as `scratch` reports it. `check` reads a run
-- document beside a report, and judges the report. `gen` reads nothing and writes the summary of such a history of the run
-- that the generator makes: it comes of its numbers alone where each edit was accepted.
use Rattle.std.specs.Prelude.{ℕ, ◌≡◌, ◌≢◌, ◌<◌, ◌^◌, List, length, map, string_bytes, String, Option, Some, None, IfSome, Ok, Err}
use Rattle.std.specs.declared.alloc.Global.{Global}
use Rattle.lay_frag.specs.Pieces.{Context}
use Rattle.lay_context.specs.Solves.{Solves}
use Rattle.lay_history.specs.Histories.{accepted}
use Rattle.lay_history.specs.Calls.{AnswersScripts}
use Rattle.lay_history.specs.Legal.{IsWhole}
use Rattle.lay_history.specs.Trees.{tree_at}
use Rattle.lay_core.specs.CoreLaws.ReachedCores.{IsReached}
use Rattle.lay_core.specs.State.{IsCore, State}
use Rattle.lay_report.specs.Report.{run_report, scratch_report}
use Rattle.lay_run.specs.Runs.{Run}
use Rattle.lay_json.specs.declared.fault.InputFault.{InputFault}
use Rattle.lay_json.specs.declared.fault.InputFault.TheVariants.{NoMemory}
use Rattle.lay_json.specs.Styled.StyledReading.{IsStyledReading}
use Rattle.lay_generator.specs.Generated.{generated}
use Rattle.lay_generator.specs.LastDocuments.{list_count}
use Rattle.lay_generator.specs.Summary.{summary}
use Rattle.lay_words.specs.declared.form.Form.{Form}
use Rattle.lay_words.specs.declared.form.Form.TheVariants as form
use Rattle.lay_words.specs.Grammar.{form_of_words}
use Rattle.lay_frag.specs.declared.frag.Frag.{Frag}
use Rattle.lay_hit.specs.declared.point.Point.{Point}
use Rattle.lay_hit.specs.HitLines.{hit_line}
use Rattle.lay_audit.specs.Check.Judging.{SpellCheck}
use Rattle.lay_cli.specs.Checks.{IsCheckRefusal, IsVerdictReport}
use Rattle.lay_cli.specs.Hits.{IsSeen, point_at}
use Rattle.lay_outside.specs.Outside.{IsDrained}
use Rattle.lay_cli.specs.Refusals.{fault_line}
use Rattle.lay_cli.specs.Summaries.{IsOnlySummary}
use Rattle.lay_cli.specs.declared.run_input.Input.{Input}
use Rattle.lay_cli.specs.declared.run_input.Input.TheVariants.{Run as a_run, Refusal as a_refusal}

-- the words have this form
abbrev pub HaveForm : List (String Global) → Form → Type 0
HaveForm words wanted = form_of_words (map string_bytes words) ≡ Some wanted

-- the words have none of the forms
abbrev pub HaveNoForm : List (String Global) → Type 0
HaveNoForm words = form_of_words (map string_bytes words) ≡ None

-- the bytes spell this run, whose document their sheet has styled
abbrev pub Spells : List ℕ → Run → Type 0
Spells bytes run = IsStyledReading bytes (Ok run)

-- why bytes are refused, and the line that says so
pub record IsInputRefusal (bytes line : List ℕ) : Type 0 where
  pub fault : InputFault
  pub named : fault ≢ NoMemory
  pub reading : IsStyledReading bytes (Err fault)
  pub line_is : line ≡ fault_line fault

-- the text is the report of a tree that solves the run's document
pub record IsScratchReport (run : Run) (text : List ℕ) : Type 0 where
  pub tree : List Context
  pub solves : Solves run.doc run.face tree
  pub text_is : text ≡ scratch_report tree

-- A core that answered a run's editors. Its history is legal: each edit has the reply of the document at that point. Each
-- published version has one tree, and that solves the document of the version (`core`). Each editor's commands are
-- answered once and in order. The last version is published. Calls led to it from a new core of the run's document and
-- face, so the laws of such cores hold of it: each of its cells was granted at most once, plus once per accepted
-- list of edits and per claim of the cell that came back (`GrantsAreWithin`).
pub record IsDriven (run : Run) (s : State) : Type 0 where
  pub init : s.init ≡ run.doc
  pub face : s.face ≡ run.face
  pub core : IsCore s
  pub reached : IsReached run.doc run.face s
  pub scripts : AnswersScripts s.history run.scripts
  pub whole : IsWhole s.history

-- the text is the report of a core that answered the run's editors
pub record IsRunReport (run : Run) (s : State) (text : List ℕ) : Type 0 where
  pub driven : IsDriven run s
  pub within : s.laid < 2 ^ 64
  pub text_is : text ≡ run_report s.history s.trees s.laid

-- the text is the summary of a core whose last version has a tree
pub record IsSummaryOf (s : State) (text : List ℕ) : Type 0 where
  pub tree : List Context
  pub last : tree_at (accepted s.history) s.trees ≡ Some tree
  pub text_is : text ≡ summary (length s.document.nodes) (accepted s.history) tree

-- the text is the summary of a core that answered the editors of the generated run; where each of their lists of edits was accepted it
-- comes of the size and the seed alone
pub record IsSummary (size seed : ℕ) (s : State) (text : List ℕ) : Type 0 where
  pub driven : IsDriven (generated size seed) s
  pub summary_of : IsSummaryOf s text
  pub of_numbers : accepted s.history ≡ list_count (generated size seed) → IsOnlySummary size seed text

-- what holds of the run that the bytes spell
pub record OfRun (bytes : List ℕ) (P : Run → Type 0) : Type 0 where
  pub run : Run
  pub spells : Spells bytes run
  pub holds : P run

-- what holds of the core that is kept
abbrev pub OfKept : Option State → (State → Type 0) → Type 0
OfKept None P = ⊥
OfKept (Some s) P = P s

-- the text is the report of a tree, which solves the document that the bytes spell, where they are told
pub record IsTreeReport (left : Option (List ℕ)) (text : List ℕ) : Type 0 where
  pub tree : List Context
  pub text_is : text ≡ scratch_report tree
  pub solves : IfSome left (λ bytes. OfRun bytes (λ run. Solves run.doc run.face tree))

-- the text is the report of this core, whose last version is published; it answered the editors of the run that the bytes
-- spell, where they are told
pub record IsCoreReport (left : Option (List ℕ)) (s : State) (text : List ℕ) : Type 0 where
  pub text_is : text ≡ run_report s.history s.trees s.laid
  pub within : s.laid < 2 ^ 64
  pub whole : IsWhole s.history
  pub driven : IfSome left (λ bytes. OfRun bytes (λ run. IsDriven run s))

-- the text is the line of the piece, or of none, that is seen at the point in the document that the bytes spell, where they
-- are told
pub record IsPieceReport (left : Option (List ℕ)) (at : Point) (text : List ℕ) : Type 0 where
  pub piece : Option Frag
  pub text_is : text ≡ hit_line piece
  pub seen : IfSome left (λ bytes. OfRun bytes (λ run. IsSeen run at piece))

-- the text reports what these words ask of the bytes, and this core is kept
abbrev pub Reports : Form → Option (List ℕ) → Option State → List ℕ → Type 0
Reports form.Scratch left kept text = (kept ≡ None) × IsTreeReport left text
Reports (form.Run workers) left kept text = OfKept kept (λ s. IsCoreReport left s text)
Reports (form.Gen size seed workers) left kept text = OfKept kept (λ s. IsSummary size seed s text)
Reports (form.Hit x y) left kept text = (kept ≡ None) × IsPieceReport left (point_at x y) text
Reports form.Check left kept text = (kept ≡ None) × IsVerdictReport left text

-- the line says why the bytes are refused; `gen` reads none
abbrev pub Refuses : Form → Option (List ℕ) → List ℕ → Type 0
Refuses form.Scratch left line = IfSome left (λ bytes. IsInputRefusal bytes line)
Refuses (form.Run workers) left line = IfSome left (λ bytes. IsInputRefusal bytes line)
Refuses (form.Gen size seed workers) left line = ⊥
Refuses (form.Hit x y) left line = IfSome left (λ bytes. IsInputRefusal bytes line)
Refuses form.Check left line = IfSome left (λ bytes. IsCheckRefusal bytes line)

-- the bytes spell a run, for `check` beside a report; `gen` needs none
abbrev pub IsAskedWell : Form → List ℕ → Type 0
IsAskedWell form.Scratch bytes = (run : Run) × Spells bytes run
IsAskedWell (form.Run workers) bytes = (run : Run) × Spells bytes run
IsAskedWell (form.Gen size seed workers) bytes = Unit {0}
IsAskedWell (form.Hit x y) bytes = (run : Run) × Spells bytes run
IsAskedWell form.Check bytes = SpellCheck bytes

-- what was read of the bytes: the run that they spell, or why they are refused
abbrev pub IsRunOrRefusal : List ℕ → Input → Type 0
IsRunOrRefusal bytes (a_run run) = Spells bytes run
IsRunOrRefusal bytes (a_refusal line) = IsInputRefusal bytes line

-- the line for a fault, which isn't that memory ran out
abbrev pub IsFaultInput : InputFault → Input → Type 0
IsFaultInput fault (a_run run) = ⊥
IsFaultInput fault (a_refusal line) = (fault ≢ NoMemory) × (line ≡ fault_line fault)

-- all bytes were read, where they spell a run; for `gen` none is
abbrev pub AreRead : Form → Option (List ℕ) → Option (List ℕ) → Type 0
AreRead form.Scratch left now = IsDrained left now
AreRead (form.Run workers) left now = IsDrained left now
AreRead (form.Gen size seed workers) left now = now ≡ left
AreRead (form.Hit x y) left now = IsDrained left now
AreRead form.Check left now = IsDrained left now

abbrev pub IsInputRun : Input → Type 0
IsInputRun (a_run run) = Unit {0}
IsInputRun (a_refusal line) = ⊥

-- the line says why these bytes are refused; `gen` reads none
abbrev pub IsRefused : Form → List ℕ → List ℕ → Type 0
IsRefused form.Scratch bytes line = IsInputRefusal bytes line
IsRefused (form.Run workers) bytes line = IsInputRefusal bytes line
IsRefused (form.Gen size seed workers) bytes line = ⊥
IsRefused (form.Hit x y) bytes line = IsInputRefusal bytes line
IsRefused form.Check bytes line = IsCheckRefusal bytes line

-- words of this form read the source
abbrev pub IsReader : Form → Type 0
IsReader form.Scratch = Unit {0}
IsReader (form.Run workers) = Unit {0}
IsReader (form.Gen size seed workers) = ⊥
IsReader (form.Hit x y) = Unit {0}
IsReader form.Check = Unit {0}
