-- The containing block of a box in a context (CSS 2.2, 10.1): the content box of its nearest block container. An anonymous
-- block box hands the height of its own container on, since "anonymous block boxes are ignored when resolving percentage
-- values that would refer to it: the closest non-anonymous ancestor containing block is used instead" (9.2.1.1); its width is
-- that of its container anyway.
use Rattle.std.specs.Prelude.{ℕ, List, if◌then◌else◌}
use Rattle.lay_box_tree.specs.declared.box_tree.BoxNode.{BoxNode}
use Rattle.lay_sizes.specs.declared.sizing.BoxSizes.{BoxSizes}
use Rattle.lay_sizes.specs.declared.sizing.ContainingBlock.{ContainingBlock}
use Rattle.lay_sizes.specs.BoxSizes.{content_block}
use Rattle.lay_sizes.specs.SizeColumns.{sizes_at}
use Rattle.lay_box_tree.specs.Containing.{container_of, is_anonymous}

-- the box whose height percentages in the box at c refer to
abbrev pub height_holder : List BoxNode → ℕ → ℕ
height_holder boxes c = if is_anonymous boxes c then container_of boxes c else c

-- the containing block that the block container at c is to what is in it
abbrev pub containing_block_at : List BoxNode → List BoxSizes → ℕ → ContainingBlock
containing_block_at boxes sizes c = record {
  width = (content_block (sizes_at sizes c)).width;
  height = (content_block (sizes_at sizes (height_holder boxes c))).height;
}

-- the containing block of the box at k, which isn't the context's own
abbrev pub block_around : List BoxNode → List BoxSizes → ℕ → ContainingBlock
block_around boxes sizes k = containing_block_at boxes sizes (container_of boxes k)
