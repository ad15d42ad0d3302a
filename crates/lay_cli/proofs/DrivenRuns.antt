-- A core that answered a run's editors, by the parts that are known of it one by one, and the summary of one.
use Rattle.std.specs.Prelude.{ℕ, ◌≡◌, ◌≤◌, List}
use Rattle.std.proofs.Common.{subst}
use Rattle.lay_doc.specs.Document.{Document}
use Rattle.lay_face.specs.FaceValue.{FaceValue}
use Rattle.lay_history.specs.Calls.{AnswersScripts}
use Rattle.lay_history.specs.Legal.{IsWhole}
use Rattle.lay_core.specs.CoreLaws.ReachedCores.{IsReached}
use Rattle.lay_core.specs.State.{IsCore, State}
use Rattle.lay_run.specs.Runs.{Run}
use Rattle.lay_generator.specs.Generated.{generated}
use Rattle.lay_cli.specs.Answers.{IsDriven, IsSummary, IsSummaryOf}
use Rattle.lay_cli.specs.Laws.{SummariesComeOfNumbers}

pub driven : (run : Run) (s : State) → s.init ≡ run.doc → s.face ≡ run.face → IsCore s → IsReached s.init s.face s → AnswersScripts s.history run.scripts
    → IsWhole s.history → IsDriven run s
driven run s init face core reached scripts whole = record {
  init = init;
  face = face;
  core = core;
  reached = subst (λ (d : Document). IsReached d run.face s) init (subst (λ (f : FaceValue). IsReached s.init f s) face reached);
  scripts = scripts;
  whole = whole;
}

pub driven_by : (run asked : Run) (s : State) → run ≡ asked → s.init ≡ run.doc → s.face ≡ run.face → IsCore s → IsReached s.init s.face s
    → AnswersScripts s.history run.scripts → IsWhole s.history → IsDriven asked s
driven_by run asked s same init face core reached scripts whole =
    subst (λ r. IsDriven r s) same (driven run s init face core reached scripts whole)

pub summary_by : SummariesComeOfNumbers → (size seed : ℕ) (s : State) (text : List ℕ) → size ≤ 1000 → IsDriven (generated size seed) s → IsSummaryOf s text
    → IsSummary size seed s text
summary_by come size seed s text few driven its =
    record { driven = driven; summary_of = its; of_numbers = come size seed s text few driven its }
