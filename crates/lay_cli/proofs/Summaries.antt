-- The summary of a generated run comes of its numbers: the document of its last version does, and that has one layout.
use Rattle.std.proofs.Common.{◌≡◌, ℕ, ◌+◌, ◌*◌, ◌≤◌, List, [], length, sym, ap, ◌∙◌, subst}
use Rattle.std.proofs.lemmas.List.Elements.{All-nil}
use Rattle.std.proofs.lemmas.Option.{same_Some}
use Rattle.lay_doc.specs.Document.{Document, IsDocument}
use Rattle.lay_frag.specs.Pieces.{Context}
use Rattle.lay_face.specs.FaceValue.{FaceValue}
use Rattle.lay_history.specs.Histories.{accepted}
use Rattle.lay_history.specs.Legal.{IsLegal, doc_after}
use Rattle.lay_context.specs.Laws.{OneSolution}
use Rattle.lay_context.specs.Solves.{Solves}
use Rattle.lay_run.specs.Runs.{Run}
use Rattle.lay_core.specs.Laws.{HasLastTree, LastTree}
use Rattle.lay_core.specs.State.{State}
use Rattle.lay_generator.specs.Generated.{generated}
use Rattle.lay_generator.specs.LastDocuments.{last_document, list_count}
use Rattle.lay_generator.specs.Laws.{ResultsIn, GeneratedNodesStay, GeneratedRunsComeToOne, IsListOf}
use Rattle.lay_generator.specs.Summary.{summary}
use Rattle.lay_cli.specs.Answers.{IsDriven, IsSummaryOf}
use Rattle.lay_cli.specs.Laws.{OneSummary, SummariesComeOfNumbers}
use Rattle.lay_cli.specs.Summaries.{IsOnlySummary}

-- equal trees beside equal numbers
only_by : OneSolution → (d : Document) (f : FaceValue) (nodes count : ℕ) (text other : List ℕ) (tree its : List Context) → IsDocument d → Solves d f tree → Solves d f its
    → text ≡ summary nodes count tree → other ≡ summary nodes count its → other ≡ text
only_by one d f nodes count text other tree its valid solves also text_is other_is =
    other_is ∙ (ap (summary nodes count) (one d f its tree valid also solves) ∙ sym text_is)

module _ (come : GeneratedRunsComeToOne) (stay : GeneratedNodesStay) (last : LastTree) (one : OneSolution)
    (size seed : ℕ) (s : State) (text : List ℕ) (few : size ≤ 1000) (driven : IsDriven (generated size seed) s) (its : IsSummaryOf s text)
    (all : accepted s.history ≡ list_count (generated size seed)) where
  abbrev run : Run
  run = generated size seed

  comes : ResultsIn run (last_document run) s.history
  comes = come size seed s.history few (subst (λ d. IsLegal d s.history) driven.init driven.core.legal) driven.scripts

  began : s.document ≡ doc_after run.doc s.history
  began = driven.core.document_is ∙ ap (λ d. doc_after d s.history) driven.init

  ended : s.document ≡ last_document run
  ended = began ∙ comes.last_is all

  nodes : length s.document.nodes ≡ 1 + 4 * size
  nodes = ap (λ (d : Document). length d.nodes) began ∙ (comes.nodes_stay ∙ stay size seed [] few (All-nil (IsListOf run)))

  valid : IsDocument (last_document run)
  valid = subst IsDocument ended driven.core.sound.cells.is_document

  found : HasLastTree s
  found = last s driven.core driven.whole

  same_tree : found.tree ≡ its.tree
  same_tree = same_Some found.tree its.tree (sym found.at ∙ its.last)

  solves : Solves (last_document run) run.face its.tree
  solves =
      subst (λ d. Solves d run.face its.tree) ended
      (subst (λ f. Solves s.document f its.tree) driven.face (subst (λ t. Solves s.document s.face t) same_tree found.solves))

  text_is : text ≡ summary (1 + 4 * size) (list_count run) its.tree
  text_is = its.text_is ∙ (ap (λ n. summary n (accepted s.history) its.tree) nodes ∙ ap (λ n. summary (1 + 4 * size) n its.tree) all)

  of_numbers : IsOnlySummary size seed text
  of_numbers = record {
    is = record { tree = its.tree; solves = solves; text_is = text_is };
    only = λ other is. only_by one (last_document run) run.face (1 + 4 * size) (list_count run) text other its.tree is.tree valid solves is.solves text_is is.text_is;
  }

pub summaries_come_of_numbers : GeneratedRunsComeToOne → GeneratedNodesStay → LastTree → OneSolution → SummariesComeOfNumbers
summaries_come_of_numbers come stay last one size seed s text few driven its all = of_numbers come stay last one size seed s text few driven its all

pub one_summary : OneSummary
one_summary size seed v w left right s t a b first second all_first all_second = (second.of_numbers all_second).only a (first.of_numbers all_first).is
