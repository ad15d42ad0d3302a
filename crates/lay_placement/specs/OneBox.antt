-- A formatting context of one box. That is its own box, in which no other box and no line stands, so that the auto height of its
-- content is 0 (CSS 2.2, 10.6.7). It has the height that is given, or that, within its bounds (10.7).
use Rattle.std.specs.Prelude.{ℤ, pos, List}
use Rattle.lay_units.specs.declared.length.Unit.{Unit as Length}
use Rattle.lay_units.specs.Lengths.{no_length}
use Rattle.lay_frag.specs.declared.frag.Frag.{Frag}
use Rattle.lay_frag.specs.declared.frag.FragKind.TheVariants as kind
use Rattle.lay_box_tree.specs.declared.box_tree.BoxNode.{BoxNode}
use Rattle.lay_box_tree.specs.InlineParts.{id_at}
use Rattle.lay_flow.specs.declared.blocks.block.Block.{Block}
use Rattle.lay_flow.specs.declared.blocks.block.Inside.TheVariants as inside
use Rattle.lay_flow.specs.declared.blocks.flow_box.HeightRule.{HeightRule}
use Rattle.lay_flow.specs.Blocks.BlockPositions.{border_height}
use Rattle.lay_sizes.specs.declared.sizing.BoxSizes.{BoxSizes}
use Rattle.lay_placements.specs.declared.standing.Standing.{Standing}
use Rattle.lay_placements.specs.Corners.{no_corner}
use Rattle.lay_placements.specs.Splicing.{border_box}

-- a block box of these used sizes, of whose height that is given, as margins and heights see it
abbrev pub block_of_height : BoxSizes → HeightRule → Block
block_of_height z height = record {
  margin_top = z.margin_top;
  margin_bottom = z.margin_bottom;
  edge_top = z.edges.top;
  edge_bottom = z.edges.bottom;
  height = height.given;
  min_height = height.min;
  max_height = height.max;
  inside = inside.Blocks;
}

-- the height of its border box, where nothing stands in it
abbrev pub empty_height : BoxSizes → HeightRule → ℤ
empty_height z height = border_height (block_of_height z height) (pos 0) (pos 0)

-- where it stands, for this height: all is counted from its corner
abbrev pub only_standing : Length → Standing
only_standing height = record { corner = no_corner; height = height; shift = no_length }

-- its piece, where it is so wide and stands so
abbrev pub only_piece : List BoxNode → Length → Standing → Frag
only_piece boxes width s = record { kind = kind.Box; node = record { 0 = id_at boxes 0 }; part = 0; rect = border_box width s }
