-- The report of a core that answered its editors is a legal one, so the verdict on it is yes, whoever asks. And the trees that a
-- core published are those that a layout from scratch makes of the documents of their versions, since a document has one.
use Rattle.std.specs.Prelude.{ℕ, ◌≡◌, ◌<◌, ◌^◌, List, Ok, Some}
use Rattle.lay_doc.specs.Document.{IsDocument}
use Rattle.lay_history.specs.declared.edits.command.Cmd.{Cmd}
use Rattle.lay_history.specs.Calls.{AnswersScripts}
use Rattle.lay_frag.specs.Pieces.{Context}
use Rattle.lay_history.specs.Histories.{doc_at}
use Rattle.lay_history.specs.Legal.{IsWhole}
use Rattle.lay_history.specs.Trees.{tree_at}
use Rattle.lay_context.specs.Solves.{Solves}
use Rattle.lay_run.specs.Runs.{Run}
use Rattle.lay_report.specs.Report.{run_report}
use Rattle.lay_json.specs.Reading.{HoldsBoth}
use Rattle.lay_json.specs.Styled.StyledReading.{IsStyledReading}
use Rattle.lay_core.specs.CoreLaws.ReachedCores.{IsReached}
use Rattle.lay_core.specs.State.{IsCore, State}
use Rattle.lay_audit.specs.declared.verdict.Verdict.{Verdict}
use Rattle.lay_audit.specs.declared.verdict.Verdict.TheVariants.{Yes}
use Rattle.lay_audit.specs.LegalReports.{IsLegalReport}
use Rattle.lay_audit.specs.Check.Judging.{IsJudged, SpellCheck}

-- a core that answered these scripts, whose last version is published
pub record HasAnswered (s : State) (scripts : List (List Cmd)) : Type 0 where
  pub core : IsCore s
  pub answers : AnswersScripts s.history scripts
  pub whole : IsWhole s.history
  pub within : s.laid < 2 ^ 64

abbrev pub RunReportsAreLegal : Type 0
RunReportsAreLegal = (s : State) (scripts : List (List Cmd)) → HasAnswered s scripts
    → IsLegalReport (record { init = s.init; face = s.face; scripts = scripts }) (run_report s.history s.trees s.laid)

-- the core began with this run's document
pub record IsOfRun (s : State) (run : Run) : Type 0 where
  pub init : s.init ≡ run.doc
  pub face : s.face ≡ run.face
  pub answered : HasAnswered s run.scripts

-- the object that holds a run document and a report of its run is a check, and the verdict is yes
abbrev pub RunReportsAreYes : Type 0
RunReportsAreYes = (s : State) (run : Run) (bytes both : List ℕ) → IsOfRun s run → IsStyledReading bytes (Ok run)
    → HoldsBoth bytes (run_report s.history s.trees s.laid) both
    → SpellCheck both × ((verdict : Verdict) → IsJudged both verdict → verdict ≡ Yes)

-- a tree that solves the document of a version is the one that was published for it
abbrev pub PublishedTreesAreLayouts : Type 0
PublishedTreesAreLayouts = (s : State) (version : ℕ) (tree scratch : List Context) → IsCore s → tree_at version s.trees ≡ Some tree
    → IsDocument (doc_at s.init s.history version) → Solves (doc_at s.init s.history version) s.face scratch → tree ≡ scratch

-- so it is of every version of a core that calls led to
abbrev pub ReachedTreesAreLayouts : Type 0
ReachedTreesAreLayouts = (s : State) (version : ℕ) (tree scratch : List Context) → IsReached s.init s.face s
    → tree_at version s.trees ≡ Some tree → Solves (doc_at s.init s.history version) s.face scratch → tree ≡ scratch
