-- What an edit doesn't reach it leaves as it is: a node keeps its id, its kind, its text, its declarations, its parent and its
-- computed style, and the box that it generates by itself. It may stand at another place, behind the same ones as before.
use Rattle.std.specs.Prelude.{ℕ, ◌≡◌, ◌<◌, List, length, option_map, slice_get}
use Rattle.lay_style.specs.declared.style.Style.{Style}
use Rattle.lay_style.specs.ComputedStyle.{style_at}
use Rattle.lay_doc.specs.declared.edit.Edit.{Edit}
use Rattle.lay_doc.specs.declared.node.Node.{Node}
use Rattle.lay_doc.specs.Document.{Document}
use Rattle.lay_doc.specs.Edits.{after}
use Rattle.lay_doc.specs.NewNodes.{NewNodeValue}
use Rattle.lay_doc.specs.NodeRefs.{parent_id}
use Rattle.lay_boxgen.specs.declared.facts.Facts.{Facts}
use Rattle.lay_boxgen.specs.Contexts.{box_at}
use Rattle.lay_contexts.specs.Edited.Reached.{IsReached}
use Rattle.lay_contexts.specs.Edited.Touched.{Edits}

-- what a node is, wherever it stands
abbrev pub content_of : Node → NewNodeValue
content_of n = record { id = n.id; kind = n.kind; decls = n.decls; text = n.text }

-- the same box of a node that stands at this place
abbrev pub box_moved : ℕ → Facts → Facts
box_moved place f = record f { place = place }

-- the node at k of one document is that at m of the other
pub record IsKeptAt (d e : Document) (styles others : List Style) (k m : ℕ) : Type 0 where
  pub here : k < length d.nodes
  pub there : m < length e.nodes
  pub content : option_map content_of (slice_get d.nodes k) ≡ option_map content_of (slice_get e.nodes m)
  pub parent : parent_id d.nodes k ≡ parent_id e.nodes m
  pub style : style_at styles k ≡ style_at others m
  pub box : box_at e.nodes others m ≡ option_map (box_moved m) (box_at d.nodes styles k)

-- the nodes that aren't reached before the edit are those that aren't after it
pub record KeepsUnreached (d : Document) (edit : Edit) (styles others : List Style) : Type 0 where
  pub kept : (k : ℕ) → k < length d.nodes → (IsReached d edit k → ⊥) → (m : ℕ) × IsKeptAt d (after d edit) styles others k m
  pub all : (m : ℕ) → m < length (after d edit).nodes → (IsReached (after d edit) edit m → ⊥)
      → (k : ℕ) × IsKeptAt d (after d edit) styles others k m

abbrev pub UnreachedNodesStay : Type 0
UnreachedNodesStay = (d : Document) (edit : Edit) (styles others : List Style) → Edits d edit styles others
    → KeepsUnreached d edit styles others
