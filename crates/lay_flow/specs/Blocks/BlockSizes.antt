-- Bounds of the sizes of boxes.
use Rattle.std.specs.Prelude.{ℤ, pos, ◌+ℤ◌, ◌≤ℤ◌}
use Rattle.lay_units.specs.Units.{IsUsed, IsUsedSize, IsNear}
use Rattle.lay_floats.specs.Within.{IsWithin}
use Rattle.lay_flow.specs.declared.blocks.block.Block.{Block}
use Rattle.lay_flow.specs.declared.blocks.shape.Shape.{Shape}
use Rattle.lay_flow.specs.Blocks.BlockPositions.{given_or_auto}

-- a border and a padding on one side
abbrev pub IsBlockInset : ℤ → Type 0
IsBlockInset v = (pos 0 ≤ℤ v) × (v ≤ℤ pos 4294967296)

-- used margins, a border and a padding on each side, and a given height and a minimum that are used sizes
pub record BlockFits (b : Block) : Type 0 where
  pub margin_top : IsUsed b.margin_top.0
  pub margin_bottom : IsUsed b.margin_bottom.0
  pub edge_top : IsBlockInset b.edge_top.0
  pub edge_bottom : IsBlockInset b.edge_bottom.0
  pub height : IsUsedSize (given_or_auto b.height (pos 0))
  pub min_height : IsUsedSize b.min_height.0

-- lines that stand at a mark below an edge end near
abbrev pub IsLineDepth : ℤ → ℤ → ℤ → Type 0
IsLineDepth mark edge depth = IsNear (mark +ℤ edge +ℤ depth)

-- of a box as floats see it: sizes are at most 2^34 units, and edges at most 2^50 units from the origin
pub record ShapeFits (s : Shape) : Type 0 where
  pub width : IsWithin (pos 17179869184) s.width.0
  pub height : IsWithin (pos 17179869184) s.height.0
  pub left : IsWithin (pos 1125899906842624) s.left.0
  pub right : IsWithin (pos 1125899906842624) s.right.0
  pub x : IsWithin (pos 1125899906842624) s.x.0
