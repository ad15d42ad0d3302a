-- The content of lines that is asked for more than once, which is then kept: of which block containers of a context it is. The
-- lines of a block container have the boxes of which it is the nearest block container (CSS 2.2, 9.4.2 and 10.1).
use Rattle.std.specs.Prelude.{ℕ, ◌≡◌, ◌↔◌, Bool, true, false, List, map, slice_index_or, Some, IfSome}
use Rattle.std.specs.List.{list_any}
use Rattle.lay_face.specs.FaceValue.{FaceValue}
use Rattle.lay_box_tree.specs.declared.box_tree.BoxKind.{BoxKind}
use Rattle.lay_box_tree.specs.declared.box_tree.BoxKind.TheVariants as kind
use Rattle.lay_box_tree.specs.declared.box_tree.BoxNode.{BoxNode}
use Rattle.lay_flow.specs.Blocks.Children.{flag_at}
use Rattle.lay_box_tree.specs.Containing.{container_of}
use Rattle.lay_line_items.specs.InlineContents.{KeptSegments, kept_at}
use Rattle.lay_line_items.specs.InlineSegments.{segments_in}
use Rattle.lay_flow_boxes.specs.declared.asked_contents.Asked.{Asked}
use Rattle.lay_flow_boxes.specs.declared.asked_contents.Asked.TheVariants.{Texts as texts, Anchors as anchors}

-- a box of this kind is one for which it is asked
abbrev pub is_asked_kind : Asked → BoxKind → Bool
is_asked_kind texts (kind.Text t) = true
is_asked_kind anchors kind.Anchor = true
is_asked_kind _ _ = false

abbrev pub is_asked : Asked → BoxNode → Bool
is_asked asked b = is_asked_kind asked b.kind

-- one of these boxes is such a box
abbrev pub is_any_asked : Asked → List BoxNode → Bool
is_any_asked asked boxes = list_any (is_asked asked) boxes

-- the box at k is such a box
abbrev pub is_asked_at : Asked → List BoxNode → ℕ → Bool
is_asked_at asked boxes k = slice_index_or (map (is_asked asked) boxes) k false

-- the lines of the box at c have such a box
pub record HoldsAsked (asked : Asked) (boxes : List BoxNode) (c : ℕ) : Type 0 where
  pub place : ℕ
  pub is : is_asked_at asked boxes place ≡ true
  pub container : container_of boxes place ≡ c

-- these flags say it of each box
abbrev pub AreHolders : Asked → List BoxNode → List Bool → Type 0
AreHolders asked boxes flags = (c : ℕ) → flag_at flags c ≡ true ↔ HoldsAsked asked boxes c

-- what is kept is the content of the lines that have such a box, in this face, and no other content
pub record AreAskedContents (asked : Asked) (face : FaceValue) (boxes : List BoxNode) (kept : KeptSegments) : Type 0 where
  pub all : (k : ℕ) → HoldsAsked asked boxes k → kept_at kept k ≡ Some (segments_in face boxes k)
  pub alone : (k : ℕ) → IfSome (kept_at kept k) (λ ss. (ss ≡ segments_in face boxes k) × HoldsAsked asked boxes k)
