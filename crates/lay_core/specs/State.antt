-- What a core keeps: a document that editors change, with the cells of its contexts, the history, and the trees of the versions that were
-- published. In a cell stands what was laid out of a context (CSS 2.2, 9.4.1); it is dirty where that may be of an older document.
use Rattle.std.specs.Prelude.{ℕ, ◌≡◌, ◌+◌, ◌*◌, ◌≤◌, ◌^◌, ◌&&◌, not, Bool, true, List, [], ◌∷◌, length}
use Rattle.std.specs.List.{All}
use Rattle.lay_doc.specs.Document.{Document}
use Rattle.lay_history.specs.declared.edits.history.Entry.{Entry}
use Rattle.lay_face.specs.FaceValue.{FaceValue}
use Rattle.lay_frag.specs.Pieces.{Context}
use Rattle.lay_history.specs.Calls.{calls}
use Rattle.lay_history.specs.Histories.{accepted, doc_at}
use Rattle.lay_history.specs.Legal.{IsLegal, doc_after}
use Rattle.lay_history.specs.Trees.{HasTrees, PublishedTreeValue}
use Rattle.lay_context.specs.Solves.{Solves}
use Rattle.lay_cell_work.specs.CellLaws.SoundCells.{CellRow, CellState}
use Rattle.lay_document_cells.specs.State.{IsOfDocument, State as DocumentCells}

pub record State : Type 0 where
  -- the document before any edit
  pub init : Document
  pub face : FaceValue
  pub history : List Entry
  pub document : Document
  -- the cells of the document
  pub cells : CellState
  pub trees : List PublishedTreeValue
  -- how many more calls of editors may come
  pub calls_left : ℕ
  -- how many claims of cells were granted so far
  pub laid : ℕ

-- the document with its cells
abbrev pub document_cells : State → DocumentCells
document_cells s = record { document = s.document; face = s.face; cells = s.cells; laid = s.laid }

-- the core with these
abbrev pub with_cells : State → DocumentCells → State
with_cells s d = record s { face = d.face; document = d.document; cells = d.cells; laid = d.laid }

-- whether no cell is dirty
abbrev pub are_clean : List CellRow → Bool
are_clean [] = true
are_clean (r ∷ rows) = not r.dirty && are_clean rows

abbrev pub is_clean : State → Bool
is_clean s = are_clean s.cells.rows

-- each tree is the layout of the document of its version
abbrev pub AreSolved : Document → FaceValue → List Entry → List PublishedTreeValue → Type 0
AreSolved init face history trees = All (λ t. Solves (doc_at init history t.version) face t.tree) trees

-- the number of grants counts three for each context of a tree
abbrev pub IsCounted : ℕ → List Context → Type 0
IsCounted laid tree = 3 * length tree ≤ laid

-- what holds of a core, whatever calls came before
pub record IsCore (s : State) : Type 0 where
  pub document_is : s.document ≡ doc_after s.init s.history
  pub legal : IsLegal s.init s.history
  pub has_trees : HasTrees s.history s.trees
  pub solved : AreSolved s.init s.face s.history s.trees
  -- what clean cells keep is of the document as it is
  pub sound : IsOfDocument (document_cells s)
  pub counted : All (λ t. IsCounted s.laid t.tree) s.trees
  pub few_calls : length (calls s.history) + s.calls_left ≤ 8192

-- what a core keeps beside it: the number of accepted edits, and room in the history for all entries that may come
pub record IsKept (s : State) (count room : ℕ) : Type 0 where
  pub is_core : IsCore s
  pub count_is : count ≡ accepted s.history
  pub has_room : 2 * (length (calls s.history) + s.calls_left) + 2 ≤ room

-- numbers enough of claims are left for the calls that may come
abbrev pub HasNumbers : State → Type 0
HasNumbers s = s.cells.draws + 2 ^ 20 * s.calls_left ≤ 2 ^ 63 + 2 ^ 51
