-- A layout of the blocks of one block formatting context, and what it is made with: the extents of what is in the boxes beside
-- their blocks, and the clear edges of the boxes that have clearance. Where these are given, and which boxes have clearance,
-- the blocks have one layout, and no other (Laws).
use Rattle.std.specs.Prelude.{List, Option}
use Rattle.lay_units.specs.declared.length.Unit.{Unit as Length}
use Rattle.lay_flow.specs.Blocks.MarginRuns.{Runs}

-- Columns with an entry for each box.
pub record Positions : Type 0 where
  -- where the run of its top margin starts
  pub starts : List Length
  -- its mark: where its top border edge stands
  pub marks : List Length
  -- the height of its border box
  pub heights : List Length

-- What is in the boxes of a context beside their blocks.
pub record Extents : Type 0 where
  -- how far the bottom border edge of a solid box lies below its mark, and the end of the lines in a box below the top of
  -- its content, and 0 for other boxes
  pub depths : List Length
  -- the lowest bottom of the context's floats, if it has any
  pub floats : Option Length

pub record BlockLayout : Type 0 where
  pub extents : Extents
  -- a clear edge for each box, which counts where the box has clearance
  pub clear_edges : List Length
  pub runs : Runs
  pub places : Positions
