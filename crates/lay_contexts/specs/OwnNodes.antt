-- What the boxes of a context depend on (9.4.1): its own nodes, which are its element, the nodes around which it is the
-- nearest context, and so the elements of its inner contexts; and of each node what it is, its computed style, and which own
-- node is its parent. What is inside inner contexts, and where in the document the nodes stand, makes no difference.
use Rattle.std.specs.Prelude.{ℕ, ◌≡◌, ◌<◌, ◌==◌, Bool, false, List, [], length, slice_get, slice_index, slice_index_or, Some}
use Rattle.lay_style.specs.declared.style.Style.{Style}
use Rattle.lay_style.specs.ComputedStyle.{style_at}
use Rattle.lay_style.specs.InitialStyle.{initial_style}
use Rattle.lay_doc.specs.declared.node.Kind.{Kind}
use Rattle.lay_doc.specs.declared.node.Kind.TheVariants.{Text}
use Rattle.lay_doc.specs.declared.node.Node.{Node}
use Rattle.lay_doc.specs.declared.node.NodeId.{NodeId}
use Rattle.lay_doc.specs.Document.{Document, IsDocument}
use Rattle.lay_boxgen.specs.Contexts.{IsContextAt}
use Rattle.lay_contexts.specs.ContextTree.{IsAround, boxes_of_place, parent_of}

pub record OwnNode : Type 0 where
  pub id : NodeId
  pub kind : Kind
  pub text : List ℕ
  pub style : Style
  -- it is the document's root
  pub is_root : Bool
  -- the number of its parent among the own nodes; of the context's element it says nothing
  pub parent : ℕ

abbrev pub no_node : OwnNode
no_node = record { id = record { 0 = 0 }; kind = Text; text = []; style = initial_style; is_root = false; parent = 0 }

abbrev pub own_at : List OwnNode → ℕ → OwnNode
own_at own i = slice_index_or own i no_node

-- what the node at a place is
pub record IsOwnNode (nodes : List Node) (styles : List Style) (place : ℕ) (own : OwnNode) : Type 0 where
  pub node : Node
  pub there : slice_get nodes place ≡ Some node
  pub id : own.id ≡ node.id
  pub kind : own.kind ≡ node.kind
  pub text : own.text ≡ node.text
  pub style : own.style ≡ style_at styles place
  pub root : own.is_root ≡ (place == 0)

-- the own nodes of the context of the node at a, in document order, with their places
pub record AreOwnNodes (nodes : List Node) (styles : List Style) (a : ℕ) (places : List ℕ) (own : List OwnNode) : Type 0 where
  pub count : length own ≡ length places
  pub some : 0 < length places
  pub first : slice_index places 0 ≡ a
  pub rising : (i j : ℕ) → i < j → j < length places → slice_index places i < slice_index places j
  pub around : (i : ℕ) → 0 < i → i < length places → IsAround nodes styles (slice_index places i) a
  pub all : (k : ℕ) → k < length nodes → IsAround nodes styles k a → (i : ℕ) × (i < length places) × (slice_index places i ≡ k)
  pub each : (i : ℕ) → i < length places → IsOwnNode nodes styles (slice_index places i) (own_at own i)
  pub parent : (i : ℕ) → 0 < i → i < length places
      → ((own_at own i).parent < length places) × (slice_index places (own_at own i).parent ≡ parent_of nodes (slice_index places i))

-- two contexts, of two documents or of one, that have the same own nodes have the same boxes
abbrev pub OwnNodesDecide : Type 0
OwnNodesDecide = (d e : Document) (styles others : List Style) (a b : ℕ) (places elsewhere : List ℕ) (own : List OwnNode)
    → IsDocument d → length styles ≡ length d.nodes → IsContextAt d.nodes styles a → AreOwnNodes d.nodes styles a places own
    → IsDocument e → length others ≡ length e.nodes → IsContextAt e.nodes others b → AreOwnNodes e.nodes others b elsewhere own
    → boxes_of_place d.nodes styles a ≡ boxes_of_place e.nodes others b
