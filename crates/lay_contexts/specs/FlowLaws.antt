-- The flow of the boxes of a context (9.3), and its anchors (9.6). The own box of a context has the flow of its element's box.
-- What stands for that box in the context around is in the same flow, and is an anchor just where it is absolutely positioned.
-- Anonymous boxes are in flow.
use Rattle.std.specs.Prelude.{ℕ, ◌≡◌, ◌<◌, Bool, true, false, All, List, length, map, slice_index, slice_index_or, Some}
use Rattle.lay_style.specs.declared.style.Style.{Style}
use Rattle.lay_doc.specs.declared.node.Node.{Node}
use Rattle.lay_doc.specs.Document.{Document, IsDocument, ids_of}
use Rattle.lay_boxgen.specs.Contexts.{IsContextAt, box_at}
use Rattle.lay_boxgen.specs.Forms.{is_absolute}
use Rattle.lay_boxgen.specs.Listing.{listed_part}
use Rattle.lay_boxgen.specs.Parts.{part}
use Rattle.lay_box_tree.specs.declared.box_tree.BoxKind.{BoxKind}
use Rattle.lay_box_tree.specs.declared.box_tree.BoxKind.TheVariants.{Anchor}
use Rattle.lay_box_tree.specs.declared.box_tree.BoxNode.{BoxNode}
use Rattle.lay_boxgen.specs.declared.facts.Facts.{Facts}
use Rattle.lay_box_tree.specs.declared.box_tree.Flow.{Flow}
use Rattle.lay_box_tree.specs.declared.box_tree.Flow.TheVariants.{InFlow}

abbrev pub is_anchor : BoxKind → Bool
is_anchor Anchor = true
is_anchor _ = false

-- the box at k is an anchor
abbrev pub is_anchor_at : List BoxNode → ℕ → Bool
is_anchor_at boxes k = slice_index_or (map (λ b. is_anchor b.kind) boxes) k false

-- the flow of the box at k
abbrev pub flow_at : List BoxNode → ℕ → Flow
flow_at boxes k = slice_index_or (map (λ b. b.flow) boxes) k InFlow

abbrev pub OwnBoxesKeepFlow : Type 0
OwnBoxesKeepFlow = (d : Document) (styles : List Style) (k : ℕ) (f : Facts) → IsDocument d → length styles ≡ length d.nodes
    → IsContextAt d.nodes styles k → box_at d.nodes styles k ≡ Some f
    → flow_at (listed_part d.nodes styles (part d.nodes styles k)) 0 ≡ f.flow

-- a box that stands for the box of a node
pub record StandsForBox (nodes : List Node) (styles : List Style) (b : BoxNode) : Type 0 where
  pub place : ℕ
  pub within : place < length nodes
  pub node : slice_index (ids_of nodes) place ≡ b.node.0
  pub box : Facts
  pub there : box_at nodes styles place ≡ Some box
  pub flow : b.flow ≡ box.flow
  pub anchor : is_anchor b.kind ≡ is_absolute box.flow

-- those that are marked as boxes of inner contexts do
abbrev pub StandsWhereInner : List Node → List Style → BoxNode → Type 0
StandsWhereInner nodes styles b = b.inner ≡ true → StandsForBox nodes styles b

abbrev pub InnerBoxesKeepFlow : Type 0
InnerBoxesKeepFlow = (d : Document) (styles : List Style) (k : ℕ) → IsDocument d → length styles ≡ length d.nodes
    → All (StandsWhereInner d.nodes styles) (listed_part d.nodes styles (part d.nodes styles k))

abbrev pub IsInFlowWhereAnonymous : BoxNode → Type 0
IsInFlowWhereAnonymous b = b.anonymous ≡ true → b.flow ≡ InFlow

abbrev pub AnonymousBoxesAreInFlow : Type 0
AnonymousBoxesAreInFlow = (d : Document) (styles : List Style) (k : ℕ) → IsDocument d → length styles ≡ length d.nodes
    → All IsInFlowWhereAnonymous (listed_part d.nodes styles (part d.nodes styles k))
