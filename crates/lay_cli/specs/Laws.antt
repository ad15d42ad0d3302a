-- The reports of `run` are answered `yes` by `check`, the summary that `gen` writes comes of its numbers alone, and one line says what
-- is seen at a point.
use Rattle.std.specs.Prelude.{ℕ, ◌≡◌, ◌≤◌, List, codes, Option, Some}
use Rattle.lay_doc.specs.Document.{IsDocument}
use Rattle.lay_history.specs.Histories.{accepted}
use Rattle.lay_run.specs.Runs.{Run}
use Rattle.lay_json.specs.Reading.{HoldsBoth}
use Rattle.lay_core.specs.State.{State}
use Rattle.lay_generator.specs.Generated.{generated}
use Rattle.lay_generator.specs.LastDocuments.{list_count}
use Rattle.lay_hit.specs.declared.point.Point.{Point}
use Rattle.lay_words.specs.declared.form.Form.TheVariants as form
use Rattle.lay_cli.specs.Answers.{IsAskedWell, IsDriven, IsSummaryOf, Reports}
use Rattle.lay_cli.specs.Hits.{IsHitReport}
use Rattle.lay_cli.specs.Summaries.{IsOnlySummary}

-- the bytes of an object that holds a run document and the report that `run` writes of it are asked well, and what `check` reports of
-- them is `yes`
abbrev pub RunReportsAreAnsweredYes : Type 0
RunReportsAreAnsweredYes = (workers : ℕ) (bytes report both : List ℕ) (kept : Option State)
    → Reports (form.Run workers) (Some bytes) kept report → HoldsBoth bytes report both
    → IsAskedWell form.Check both
    × ((core : Option State) (line : List ℕ) → Reports form.Check (Some both) core line → line ≡ codes "yes\n")

-- the summary of a core that answered the editors of a generated run, and accepted each of their lists of edits, is that of the numbers
abbrev pub SummariesComeOfNumbers : Type 0
SummariesComeOfNumbers = (size seed : ℕ) (s : State) (text : List ℕ) → size ≤ 1000 → IsDriven (generated size seed) s
    → IsSummaryOf s text → accepted s.history ≡ list_count (generated size seed) → IsOnlySummary size seed text

-- So two calls of `gen` with the same numbers report the same text where both accepted as many lists as there are, whatever their numbers
-- of workers, and whatever order their threads took.
abbrev pub OneSummary : Type 0
OneSummary = (size seed v w : ℕ) (left right : Option (List ℕ)) (s t : State) (a b : List ℕ)
    → Reports (form.Gen size seed v) left (Some s) a → Reports (form.Gen size seed w) right (Some t) b
    → accepted s.history ≡ list_count (generated size seed) → accepted t.history ≡ list_count (generated size seed) → a ≡ b

-- there is one line for a run and a point
abbrev pub OneHitReport : Type 0
OneHitReport = (run : Run) (at : Point) (a b : List ℕ) → IsDocument run.doc → IsHitReport run at a → IsHitReport run at b → a ≡ b
