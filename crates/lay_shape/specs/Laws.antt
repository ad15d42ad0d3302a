-- What holds of the cells of a document.
use Rattle.std.specs.Prelude.{ℕ, ◌≡◌, ◌↔◌, ◌<◌, ◌≤◌, List, length, slice_get, Some}
use Rattle.lay_units.specs.Limits.{most_nodes}
use Rattle.lay_style.specs.declared.style.Style.{Style}
use Rattle.lay_doc.specs.Document.{Document, IsDocument}
use Rattle.lay_cells.specs.Shapes.{IsIn, IsShape}
use Rattle.lay_context.specs.declared.task.Phase.{Phase}
use Rattle.lay_contexts.specs.ContextList.{AreContextsOf}
use Rattle.lay_contexts.specs.Contexts.{AreContexts, Context}
use Rattle.lay_shape.specs.declared.context_phase.ContextPhase.{ContextPhase}
use Rattle.lay_shape.specs.Dependencies.{in_phase, needs_in}
use Rattle.lay_shape.specs.Keys.{AreOfOwnNodes}
use Rattle.lay_shape.specs.Shapes.{cells_of, shape_of}
use Rattle.lay_shape.specs.Ways.{IsOnContextWay, way_of}

-- Just the contexts on a way are listed as those.
abbrev pub WaysAreLists : Type 0
WaysAreLists = (contexts : List Context) (i j : ℕ) → AreContexts contexts → i < length contexts
    → IsIn (way_of contexts i) j ↔ IsOnContextWay contexts i j

-- the cell stands at this place among these, and at no other
pub record CellStandsOnce (cells : List ContextPhase) (c : ContextPhase) : Type 0 where
  pub place : ℕ
  pub at : slice_get cells place ≡ Some c
  pub only : (other : ℕ) → slice_get cells other ≡ Some c → other ≡ place

-- Each phase of each context is one cell.
abbrev pub CellsStandOnce : Type 0
CellsStandOnce = (contexts : List Context) (i : ℕ) (phase : Phase) → AreContexts contexts
    → i < length contexts → CellStandsOnce (cells_of contexts) (in_phase phase i)

-- And there are no other cells.
abbrev pub CellsAreOfContexts : Type 0
CellsAreOfContexts = (contexts : List Context) (c : ContextPhase) → AreContexts contexts
    → IsIn (cells_of contexts) c → c.context < length contexts

-- What a cell depends on stands before it.
abbrev pub NeedsStandBefore : Type 0
NeedsStandBefore = (contexts : List Context) (place : ℕ) (c need : ContextPhase) → AreContexts contexts
    → slice_get (cells_of contexts) place ≡ Some c
    → IsIn (needs_in contexts c) need → (before : ℕ) × (before < place) × (slice_get (cells_of contexts) before ≡ Some need)

-- Cells can be kept in this shape.
abbrev pub CellsHaveAShape : Type 0
CellsHaveAShape = (contexts : List Context) → AreContexts contexts → length contexts ≤ most_nodes
    → AreOfOwnNodes contexts → IsShape (shape_of contexts)

-- No two contexts of a document are of one node.
abbrev pub ContextsAreOfOwnNodes : Type 0
ContextsAreOfOwnNodes = (d : Document) (styles : List Style) (contexts : List Context) → IsDocument d → length styles ≡ length d.nodes
    → AreContextsOf d.nodes styles contexts → AreOfOwnNodes contexts
