-- The boxes of a context as columns: the place of each box's parent, its node's id, its style, and whether it is that
-- of an inner context. The boxes stand in a tree: each parent before its children, and the boxes of each subtree
-- together. In it the boxes of inner contexts and anchors, which are marked as inner, are leaves.
use Rattle.lay_box_tree.specs.declared.box_tree.Flow.TheVariants.{InFlow}
use Rattle.lay_box_tree.specs.declared.box_tree.BoxKind.TheVariants.{Block}
use Rattle.lay_style.specs.ComputedStyle.{style_at}
use Rattle.lay_style.specs.InitialStyle.{initial_style}
use Rattle.std.specs.Prelude.{slice_index_or}
use Rattle.std.specs.Prelude.{◌≡◌, ◌<◌, ℕ, Bool, false, List, length, map, slice_index, slice_index_or}
use Rattle.lay_style.specs.declared.style.Style.{Style}
use Rattle.lay_doc.specs.Tree.{IsTree}
use Rattle.lay_box_tree.specs.declared.box_tree.BoxNode.{BoxNode}

abbrev pub box_parents : List BoxNode → List ℕ
box_parents boxes = map (λ b. b.parent) boxes

abbrev pub box_ids : List BoxNode → List ℕ
box_ids boxes = map (λ b. b.node.0) boxes

abbrev pub box_styles : List BoxNode → List Style
box_styles boxes = map (λ b. b.style) boxes

-- the style of the box at a place
abbrev pub style_of_box : List BoxNode → ℕ → Style
style_of_box boxes k = style_at (box_styles boxes) k

abbrev pub box_inner : List BoxNode → List Bool
box_inner boxes = map (λ b. b.inner) boxes

-- the context's own box isn't that of an inner context, and no box is inside that of an inner context
pub record HasInnerLeaves (boxes : List BoxNode) : Type 0 where
  pub own : slice_index_or (box_inner boxes) 0 false ≡ false
  pub parents : (j : ℕ) → 0 < j → j < length boxes → slice_index_or (box_inner boxes) (slice_index (box_parents boxes) j) false ≡ false

pub record IsBoxTree (boxes : List BoxNode) : Type 0 where
  pub tree : IsTree (box_parents boxes)
  pub leaves : HasInnerLeaves boxes

-- the box at a place, and one of no element behind the last
abbrev pub no_box : BoxNode
no_box =
    record { node = record { 0 = 0 }; parent = 0; kind = Block; flow = InFlow; anonymous = false; inner = false; style = initial_style }

abbrev pub box_at : List BoxNode → ℕ → BoxNode
box_at boxes k = slice_index_or boxes k no_box
