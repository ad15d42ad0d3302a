-- Where an anonymous root stands, as far as that is sized: its setting comes of the boxes there and their sizes.
use Rattle.std.specs.Prelude.{◌≡◌, ◌<◌, List, length}
use Rattle.lay_context_sizes.specs.ContextSizes.{SizedContext}
use Rattle.lay_context.specs.Settings.{sizes_in}
use Rattle.lay_cell_work.specs.declared.root_spot.RootSpot.{RootSpot}
use Rattle.lay_cell_work.specs.CellInputs.{RootInput}
use Rattle.lay_cell_work.specs.CellLocal.{boxes_given}

pub record IsSpotSized (roots : List RootInput) (sizes : List SizedContext) (spot : RootSpot) : Type 0 where
  pub there : spot.root < length roots
  pub sized : spot.root < length sizes
  pub place : spot.place < length (boxes_given roots spot.root)
  pub count : length (sizes_in sizes spot.root).boxes ≡ length (boxes_given roots spot.root)
