-- No node and no edit of a generated run has a fault, and so its document comes to the same whatever order its editors take.
use Rattle.std.specs.Prelude.{ℕ, ◌≡◌, ◌+◌, ◌*◌, ◌≤◌, List, [], ◌∷◌, length, slice_get, Some, None}
use Rattle.std.specs.List.{All}
use Rattle.lay_doc.specs.declared.edit.Edit.{Edit as Change}
use Rattle.lay_doc.specs.declared.edit.EditFault.{EditFault}
use Rattle.lay_doc.specs.declared.node.NodeId.{NodeId}
use Rattle.lay_doc.specs.NewNodes.{NewNodeValue}
use Rattle.lay_doc.specs.Document.{Document, root_document}
use Rattle.lay_doc.specs.Edits.{insert_fault, last_index, root_fault}
use Rattle.lay_history.specs.Edits.EditLists.{first}
use Rattle.lay_history.specs.declared.edits.command.Reply.TheVariants.{NoMemory, Refused}
use Rattle.lay_history.specs.declared.edits.history.Entry.{Entry}
use Rattle.lay_history.specs.declared.edits.history.Entry.TheVariants.{Edit}
use Rattle.lay_history.specs.Calls.{AnswersScripts}
use Rattle.lay_history.specs.Histories.{accepted}
use Rattle.lay_history.specs.Legal.{IsLegal, doc_after}
use Rattle.lay_run.specs.Runs.{Run}
use Rattle.lay_generator.specs.Nodes.{root, sections}
use Rattle.lay_generator.specs.Generated.{generated, with_node}
use Rattle.lay_generator.specs.LastDocuments.{after_lists, last_document, list_count, lists_of}

-- none of these nodes has a fault where it is put, one behind the other
abbrev pub AreFaultless : Document → List (NodeId × NewNodeValue) → Type 0
AreFaultless d [] = Unit {0}
AreFaultless d (n ∷ ns) = (insert_fault d n.0.0 (last_index d n.0.0) n.1 ≡ None) × AreFaultless (with_node d n) ns

abbrev pub GeneratedNodesFit : Type 0
GeneratedNodesFit = (size seed : ℕ) → size ≤ 1000
    → (root_fault root ≡ None) × AreFaultless (root_document 800 600 root) (sections size 0 seed)

-- the list of edits is one of the run's
abbrev pub IsListOf : Run → List Change → Type 0
IsListOf run edits = (place : ℕ) × (slice_get (lists_of run.scripts) place ≡ Some edits)

-- no list of edits has a fault, whichever of the run's lists came before, in whatever order and however often
abbrev pub GeneratedEditsFit : Type 0
GeneratedEditsFit = (size seed : ℕ) (before : List (List Change)) (edits : List Change) → size ≤ 1000
    → All (IsListOf (generated size seed)) before → IsListOf (generated size seed) edits
    → first (after_lists (generated size seed) before) edits ≡ None

-- and after them there are four nodes for each section and the root, as at first
abbrev pub GeneratedNodesStay : Type 0
GeneratedNodesStay = (size seed : ℕ) (before : List (List Change)) → size ≤ 1000 → All (IsListOf (generated size seed)) before
    → length (after_lists (generated size seed) before).nodes ≡ 1 + 4 * size

-- no list of edits was refused for want of memory
abbrev pub NoneLacked : List Entry → Type 0
NoneLacked history = (k editor index : ℕ) (edits : List Change) → slice_get history k ≡ Some (Edit editor index edits NoMemory) → ⊥

-- no list of edits was refused for a fault
abbrev pub NoneRefused : List Entry → Type 0
NoneRefused history = (k editor index place : ℕ) (edits : List Change) (f : EditFault)
    → slice_get history k ≡ Some (Edit editor index edits (Refused place f)) → ⊥

-- What comes of a history that answers a run's editors. At most all lists of edits were accepted, and all were but for want of memory; then
-- the document is the last one.
pub record ResultsIn (run : Run) (last : Document) (history : List Entry) : Type 0 where
  pub none_refused : NoneRefused history
  pub nodes_stay : length (doc_after run.doc history).nodes ≡ length run.doc.nodes
  pub few : accepted history ≤ list_count run
  pub all_accepted : NoneLacked history → accepted history ≡ list_count run
  pub last_is : accepted history ≡ list_count run → doc_after run.doc history ≡ last

-- in whatever order the editors of a generated run came, their run comes to its last document
abbrev pub GeneratedRunsComeToOne : Type 0
GeneratedRunsComeToOne = (size seed : ℕ) (history : List Entry) → size ≤ 1000 → IsLegal (generated size seed).doc history
    → AnswersScripts history (generated size seed).scripts → ResultsIn (generated size seed) (last_document (generated size seed)) history
