-- What is known of the boxes of a block formatting context (CSS 2.2, 9.4.1 and 9.4.2): they are a tree, boxes stand in block
-- boxes alone, those of lines stand in the box with the lines, the used values of each lie within their bounds, and all
-- together weigh at most 2^24 - 2^16, so that they are at most so many.
use Rattle.std.specs.Prelude.{ℕ, ◌≡◌, ◌<◌, ◌≤◌, pos, Bool, true, false, not, ⊤, ℤ, List, length}
use Rattle.lay_units.specs.Units.{IsUsed, IsUsedSize, IsBoxSize}
use Rattle.lay_doc.specs.Tree.{IsTree}
use Rattle.lay_floats.specs.Within.{IsWithin}
use Rattle.lay_flow.specs.declared.blocks.flow_box.FlowBox.{FlowBox}
use Rattle.lay_flow.specs.declared.blocks.flow_box.FlowKind.{FlowKind}
use Rattle.lay_flow.specs.declared.blocks.flow_box.FlowKind.TheVariants.{Block as block, Lines as lines, Solid as solid}
use Rattle.lay_flow.specs.declared.blocks.flow_box.FlowKind.TheVariants.{Float as float, LineFloat as line_float, Inline as inline}
use Rattle.lay_flow.specs.declared.blocks.flow_box.BlockBox.{BlockBox}
use Rattle.lay_flow.specs.declared.blocks.flow_box.SolidBox.{SolidBox}
use Rattle.lay_flow.specs.declared.blocks.flow_box.FloatBox.{FloatBox}
use Rattle.lay_flow.specs.declared.blocks.flow_box.Vertical.{Vertical}
use Rattle.lay_flow.specs.Blocks.Boxes.{box_at, parent_at, parents_of}
use Rattle.lay_flow.specs.Blocks.BlockSizes.{IsBlockInset}
use Rattle.lay_flow.specs.Blocks.BlockPositions.{given_or_auto}
use Rattle.lay_flow.specs.Blocks.Weights.{weight}

-- it stands in lines
abbrev pub is_in_lines : FlowKind → Bool
is_in_lines (block b) = false
is_in_lines (lines l) = false
is_in_lines (solid b) = false
is_in_lines (float b) = false
is_in_lines (line_float b) = true
is_in_lines inline = true

-- it may be the context's own box
abbrev pub is_flow_block : FlowKind → Bool
is_flow_block (block b) = true
is_flow_block (lines l) = true
is_flow_block (solid b) = false
is_flow_block (float b) = false
is_flow_block (line_float b) = false
is_flow_block inline = false

-- the first may be the parent of the second
abbrev pub may_hold : FlowKind → FlowKind → Bool
may_hold (block b) child = not (is_in_lines child)
may_hold (lines l) child = is_in_lines child
may_hold (solid b) child = false
may_hold (float b) child = false
may_hold (line_float b) child = false
may_hold inline child = false

-- a vertical edge: at most 2^49 units from the origin
abbrev pub IsEdge : ℤ → Type 0
IsEdge v = IsWithin (pos 562949953421312) v

pub record MarginsFit (m : Vertical) : Type 0 where
  pub top : IsUsed m.top.0
  pub bottom : IsUsed m.bottom.0

pub record BlockBoxFits (b : BlockBox) : Type 0 where
  pub x : IsEdge b.x.0
  pub margin : MarginsFit b.margin
  pub inset_top : IsBlockInset b.inset.top.0
  pub inset_bottom : IsBlockInset b.inset.bottom.0
  pub left : IsWithin (pos 1125899906842624) b.content.left.0
  pub right : IsWithin (pos 1125899906842624) b.content.right.0
  pub height : IsUsedSize (given_or_auto b.height.given (pos 0))
  pub min_height : IsUsedSize b.height.min.0

pub record SolidBoxFits (b : SolidBox) : Type 0 where
  pub x : IsEdge b.x.0
  pub margin : MarginsFit b.margin
  pub width : IsBoxSize b.width.0
  pub height : IsBoxSize b.height.0

pub record FloatBoxFits (b : FloatBox) : Type 0 where
  pub margin_top : IsUsed b.margin.top.0
  pub margin_right : IsUsed b.margin.right.0
  pub margin_bottom : IsUsed b.margin.bottom.0
  pub margin_left : IsUsed b.margin.left.0
  pub width : IsBoxSize b.width.0
  pub height : IsBoxSize b.height.0

abbrev pub KindFits : FlowKind → Type 0
KindFits (block b) = BlockBoxFits b
KindFits (lines l) = BlockBoxFits l.block
KindFits (solid b) = SolidBoxFits b
KindFits (float b) = FloatBoxFits b
KindFits (line_float b) = FloatBoxFits b
KindFits inline = ⊤

-- they are a tree, in which boxes stand in block boxes, and those of lines in a box that holds lines
pub record IsFlowTree (boxes : List FlowBox) : Type 0 where
  pub some : 0 < length boxes
  pub tree : IsTree (parents_of boxes)
  pub root : is_flow_block (box_at boxes 0).kind ≡ true
  pub parent : (k : ℕ) → 0 < k → k < length boxes → may_hold (box_at boxes (parent_at boxes k)).kind (box_at boxes k).kind ≡ true

pub record AreFlowBoxes (boxes : List FlowBox) : Type 0 where
  pub is_tree : IsFlowTree boxes
  pub light : weight boxes (length boxes) ≤ 16711680
  pub fits : (k : ℕ) → k < length boxes → KindFits (box_at boxes k).kind
