-- Within which bounds the workings are, and how long their columns are.
use Rattle.std.specs.Prelude.{ℕ, ◌≡◌, ◌<◌, List, length, All}
use Rattle.lay_flow.specs.declared.blocks.flow_box.FlowBox.{FlowBox}
use Rattle.lay_flow.specs.Blocks.FlowBoxes.{KindFits}
use Rattle.lay_placements.specs.declared.standing.Standing.{Standing}
use Rattle.lay_placements.specs.Corners.{IsCornerNear}
use Rattle.lay_placements.specs.Standings.{AreNearStandings, standing_at}
use Rattle.lay_table.specs.RowBounds.{RowsFitTable}
use Rattle.lay_table.specs.TableInputs.{TableInput, grid_of}
use Rattle.lay_table.specs.TableStandings.{TablePlaces, standing_of}
use Rattle.lay_table.specs.WrapperFlow.{places_in_wrapper}

-- used values of boxes of a flow lie within their bounds
abbrev pub AllFit : List FlowBox → Type 0
AllFit boxes = All (λ b. KindFits b.kind) boxes

pub record PlacesFit (i : TableInput) (p : TablePlaces) : Type 0 where
  pub rows : RowsFitTable i p.rows
  pub columns : length p.columns.lengths ≡ (grid_of i).columns
  pub flow : length p.flow.boxes ≡ length (places_in_wrapper i)
  pub content : IsCornerNear p.content

-- boxes stand so
pub record AreStandings (i : TableInput) (p : TablePlaces) (standings : List Standing) : Type 0 where
  pub count : length standings ≡ length i.boxes
  pub each : (k : ℕ) → k < length i.boxes → standing_at standings k ≡ standing_of i p k
  pub near : AreNearStandings standings
