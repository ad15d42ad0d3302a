-- Each context of a document (CSS 2.2, 9.4.1) has three cells, one for each phase of its layout: its preferred widths, the used sizes
-- of its boxes, and where these stand. A cell is known by the node of the context and the phase, which stay while contexts around it
-- come and go; among the contexts of one document it is known by the number of its context too.
use Rattle.std.specs.Prelude.{ℕ, ◌≡◌, ◌<◌, List, length}
use Rattle.lay_doc.specs.declared.node.NodeId.{NodeId}
use Rattle.lay_box_tree.specs.BoxColumns.{box_at}
use Rattle.lay_contexts.specs.Contexts.{Context, boxes_in}
use Rattle.lay_shape.specs.declared.cell_key.CellKey.{CellKey}
use Rattle.lay_shape.specs.declared.context_phase.ContextPhase.{ContextPhase}

-- the node of the context with the number i, which is that of its own box
abbrev pub node_of : List Context → ℕ → NodeId
node_of contexts i = (box_at (boxes_in contexts i) 0).node

abbrev pub key_of : List Context → ContextPhase → CellKey
key_of contexts c = record { node = node_of contexts c.context; phase = c.phase }

-- no two contexts are of one node
abbrev pub AreOfOwnNodes : List Context → Type 0
AreOfOwnNodes contexts = (i j : ℕ) → i < length contexts → j < length contexts → node_of contexts i ≡ node_of contexts j → i ≡ j
