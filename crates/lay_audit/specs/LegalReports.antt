-- Which texts are reports of a run, whoever wrote them: the texts of those histories that are legal, answer each editor's
-- commands once and in order, and publish their last version, each tree being the layout of its version, with a number
-- of claims of three at least for each context of the last tree.
use Rattle.std.specs.Prelude.{ℕ, ◌≡◌, ◌<◌, ◌≤◌, ◌*◌, ◌^◌, List, length, Some}
use Rattle.std.specs.List.{All}
use Rattle.lay_doc.specs.Document.{Document}
use Rattle.lay_history.specs.declared.edits.command.Cmd.{Cmd}
use Rattle.lay_history.specs.declared.edits.history.Entry.{Entry}
use Rattle.lay_face.specs.FaceValue.{FaceValue}
use Rattle.lay_frag.specs.Pieces.{Context}
use Rattle.lay_context.specs.Solves.{Solves}
use Rattle.lay_history.specs.Calls.{AnswersScripts}
use Rattle.lay_history.specs.Histories.{accepted, doc_at}
use Rattle.lay_history.specs.Legal.{IsLegal, IsWhole}
use Rattle.lay_history.specs.Trees.{HasTrees, PublishedTreeValue, tree_at}
use Rattle.lay_report.specs.Report.{run_report}

-- what a report is judged by: the document before any edit, the face, and the commands of each editor
pub record Basis : Type 0 where
  pub init : Document
  pub face : FaceValue
  pub scripts : List (List Cmd)

-- each tree is the layout of the document of its version
abbrev pub AreTreesSolved : Basis → List Entry → List PublishedTreeValue → Type 0
AreTreesSolved basis history trees = All (λ t. Solves (doc_at basis.init history t.version) basis.face t.tree) trees

-- a whole history of the editors, with a tree for each version that it publishes
pub record IsWholeRun (basis : Basis) (history : List Entry) (trees : List PublishedTreeValue) : Type 0 where
  pub legal : IsLegal basis.init history
  pub answers : AnswersScripts history basis.scripts
  pub whole : IsWhole history
  pub has_trees : HasTrees history trees
  pub solved : AreTreesSolved basis history trees

-- the text is the report of such a history
pub record IsLegalReport (basis : Basis) (text : List ℕ) : Type 0 where
  pub history : List Entry
  pub trees : List PublishedTreeValue
  pub last : List Context
  pub laid : ℕ
  pub run : IsWholeRun basis history trees
  pub last_is : tree_at (accepted history) trees ≡ Some last
  pub enough : 3 * length last ≤ laid
  pub within : laid < 2 ^ 64
  pub text_is : text ≡ run_report history trees laid
