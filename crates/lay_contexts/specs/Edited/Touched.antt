-- Which contexts an edit may touch (CSS 2.2, 9.4.1): those that have a node among their own which the edit reaches, before the edit or
-- after it. All others are contexts before and after it, with equal boxes.
use Rattle.std.specs.Prelude.{ℕ, ◌≡◌, ◌<◌, ◌⊎◌, List, length, Some, None}
use Rattle.lay_style.specs.declared.style.Style.{Style}
use Rattle.lay_style.specs.ComputedStyle.{HasStyles}
use Rattle.lay_style.specs.Places.{place_of}
use Rattle.lay_doc.specs.declared.edit.Edit.{Edit}
use Rattle.lay_doc.specs.declared.node.Node.{Node}
use Rattle.lay_doc.specs.Document.{Document, IsDocument, declarations_of, ids_of, parents_of}
use Rattle.lay_doc.specs.Edits.{after, fault}
use Rattle.lay_doc.specs.Laws.{PutsNode}
use Rattle.lay_boxgen.specs.Contexts.{IsContext, IsContextAt}
use Rattle.lay_boxgen.specs.Listing.{boxes_of}
use Rattle.lay_contexts.specs.ContextTree.{IsAround}
use Rattle.lay_contexts.specs.Edited.Reached.{IsReached}

-- the node at k is an own node of the context of the node at a: its element, or one around which it is the nearest context. So the
-- element of an inner context is an own node of the context around too, where its box stands or its anchor.
pub data IsOwn (nodes : List Node) (styles : List Style) (a : ℕ) : ℕ → Type 0 where
  element : IsOwn nodes styles a a
  inside : (k : ℕ) → IsAround nodes styles k a → IsOwn nodes styles a k

-- the node with this id is a context, and one of its own nodes is such a one
pub record HasOwn (P : ℕ → Type 0) (d : Document) (styles : List Style) (id : ℕ) : Type 0 where
  pub place : ℕ
  pub named : place_of id (ids_of d.nodes) ≡ Some place
  pub context : IsContextAt d.nodes styles place
  pub node : ℕ
  pub within : node < length d.nodes
  pub own : IsOwn d.nodes styles place node
  pub is : P node

-- the edit reaches one of the own nodes of the context with this id
abbrev pub HasReached : Document → List Style → Edit → ℕ → Type 0
HasReached d styles edit id = HasOwn (IsReached d edit) d styles id

-- the node with this id is a context of both documents, with equal boxes
pub record KeepsBoxes (d e : Document) (styles others : List Style) (id : ℕ) : Type 0 where
  pub before : IsContext d styles id
  pub after : IsContext e others id
  pub boxes : boxes_of d styles id ≡ boxes_of e others id

-- an edit that a document takes, with the computed styles before and after it
pub record Edits (d : Document) (edit : Edit) (styles others : List Style) : Type 0 where
  pub document : IsDocument d
  pub puts : PutsNode edit
  pub accepted : fault d edit ≡ None
  pub before : HasStyles (parents_of d.nodes) (declarations_of d.nodes) styles
  pub after : HasStyles (parents_of (after d edit).nodes) (declarations_of (after d edit).nodes) others

-- a context of either document keeps its boxes, or the edit reaches one of its own nodes
abbrev pub EditsTouchReachedContexts : Type 0
EditsTouchReachedContexts = (d : Document) (edit : Edit) (styles others : List Style) (id : ℕ) → Edits d edit styles others
    → IsContext d styles id ⊎ IsContext (after d edit) others id
    → KeepsBoxes d (after d edit) styles others id ⊎ HasReached d styles edit id ⊎ HasReached (after d edit) others edit id

-- a context of either document whose own nodes the edit doesn't reach keeps its boxes
abbrev pub UnreachedContextsKeepBoxes : Type 0
UnreachedContextsKeepBoxes = (d : Document) (edit : Edit) (styles others : List Style) (id : ℕ) → Edits d edit styles others
    → IsContext d styles id ⊎ IsContext (after d edit) others id
    → (HasReached d styles edit id → ⊥) → (HasReached (after d edit) others edit id → ⊥)
    → KeepsBoxes d (after d edit) styles others id
