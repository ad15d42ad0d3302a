-- A new core: nothing has come to it, so it keeps what each core keeps.
use Rattle.std.proofs.Common.{◌≡◌, ◌≤◌, ◌*◌, ◌+◌, ◌^◌, ℕ, List, [], ap, sym, subst, arith}
use Rattle.lay_doc.specs.Document.{Document}
use Rattle.lay_face.specs.FaceValue.{FaceValue}
use Rattle.lay_history.specs.declared.edits.history.Entry.{Entry}
use Rattle.lay_history.specs.Trees.{PublishedTreeValue}
use Rattle.lay_document_cells.specs.State.{IsNew, IsOfDocument, State as DocumentCells}
use Rattle.lay_core.specs.CoreLaws.ReachedCores.{IsReached, new}
use Rattle.lay_core.specs.State.{HasNumbers, IsCore, IsKept, State}
use Rattle.lay_core.specs.Steps.{IsNewCore}
use Rattle.lay_core.proofs.Kept.{new_keeps}

-- a core of these parts, in which no cell was laid out
abbrev pub core_of : Document → DocumentCells → List Entry → List PublishedTreeValue → ℕ → State
core_of init cells history trees calls = record {
  init = init;
  face = cells.face;
  history = history;
  document = cells.document;
  cells = cells.cells;
  trees = trees;
  calls_left = calls;
  laid = cells.laid;
}

-- what the type of a core says of it
abbrev pub Holds : State → ℕ → ℕ → Type 0
Holds s count room = IsKept s count room × HasNumbers s × IsReached s.init s.face s

begins : (d : Document) (face : FaceValue) (cells : DocumentCells) (calls : ℕ) → IsNew d face cells → IsNewCore d face calls (core_of d cells [] [] calls)
begins d face cells calls is = record {
  cells = is;
  state = ap (λ (x : DocumentCells). record { init = d; face = x.face; history = []; document = x.document; cells = cells.cells; trees = []; calls_left = calls; laid = x.laid })
      is.state;
}

reached_first : (d : Document) (face : FaceValue) (cells : DocumentCells) (calls : ℕ) → IsNew d face cells → IsCore (core_of d cells [] [] calls)
    → IsReached d cells.face (core_of d cells [] [] calls)
reached_first d face cells calls is core =
    subst (λ (f : FaceValue). IsReached d f (core_of d cells [] [] calls)) (sym (ap (λ (x : DocumentCells). x.face) is.state))
    (new calls (core_of d cells [] [] calls) (begins d face cells calls is) core)

holds_first : (d : Document) (face : FaceValue) (cells : DocumentCells) (calls room : ℕ) → IsNew d face cells → IsOfDocument cells
    → cells.cells.draws ≤ 2 ^ 18 → calls ≤ 8192 → room ≡ 2 * calls + 2 → Holds (core_of d cells [] [] calls) 0 room
holds_first d face cells calls room is sound drawn few room_is =
    let kept = new_keeps d cells calls room (ap (λ (x : DocumentCells). x.document) is.state) sound few room_is in
    (kept, omega (arith, drawn, few), reached_first d face cells calls is kept.is_core)

pub new_holds : (d init : Document) (face : FaceValue) (cells : DocumentCells) (history : List Entry) (trees : List PublishedTreeValue) (calls room : ℕ)
    → init ≡ d → history ≡ [] → trees ≡ [] → IsNew d face cells → IsOfDocument cells → cells.cells.draws ≤ 2 ^ 18 → calls ≤ 8192
    → room ≡ 2 * calls + 2 → Holds (core_of init cells history trees calls) 0 room
new_holds d init face cells history trees calls room same no_history no_trees is sound drawn few room_is =
    subst (λ (x : Document). Holds (core_of x cells history trees calls) 0 room) (sym same)
    (subst (λ (h : List Entry). Holds (core_of d cells h trees calls) 0 room) (sym no_history)
    (subst (λ (ts : List PublishedTreeValue). Holds (core_of d cells [] ts calls) 0 room) (sym no_trees)
    (holds_first d face cells calls room is sound drawn few room_is)))
