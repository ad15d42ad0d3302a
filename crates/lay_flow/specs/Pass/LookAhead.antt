-- A look ahead for the hypothetical edge of a box with `clear` (CSS 2.2, 9.5.2), from the place before its top margin. It
-- reads margins until their run ends, or comes to the bottom margin of the outermost box whose top margin is in the run and
-- which has the box in it. The box stands where the margins that are read collapse to.
use Rattle.std.specs.Prelude.{ℕ, ◌≡◌, ◌<◌, ◌≤◌, ◌+◌, not, nat_lt, true, false, ℤ, ◌+ℤ◌, List, length}
use Rattle.lay_flow.specs.declared.blocks.flow_box.FlowBox.{FlowBox}
use Rattle.lay_flow.specs.Blocks.Boxes.{parent_at}
use Rattle.lay_margins.specs.StrutValue.{StrutValue}
use Rattle.lay_margins.specs.Collapse.{Holds, collapse}
use Rattle.lay_flow.specs.declared.hypothetical_edge.Outset.{Outset}
use Rattle.lay_flow.specs.Blocks.Children.{flag_at}
use Rattle.lay_flow.specs.Blocks.Lengths.{length_at}
use Rattle.lay_flow.specs.Blocks.MarginPlace.{IsAround, IsPlace, MarginPlace, margin_place}
use Rattle.lay_flow.specs.Blocks.MarginRuns.{margins, has_top, run_before}
use Rattle.lay_flow.specs.Blocks.BlockLayout.{BlockLayout}
use Rattle.lay_flow.specs.Blocks.BlockPositions.{IsBlockLayout, start_before}
use Rattle.lay_flow.specs.Pass.Struts.{StrutFits}

-- in this layout neither the box nor a later one has clearance, the strut holds the margins of the run before the top margin
-- of the box, and that run has the top margins of the boxes from `first` on
pub record ComesTo (boxes : List FlowBox) (w : BlockLayout) (from : Outset) : Type 0 where
  pub later : (j : ℕ) → from.k ≤ j → flag_at w.runs.clears j ≡ false
  pub strut_holds : Holds from.strut (margins (run_before boxes w.runs (parent_at boxes from.k) from.k))
  pub tops : (j : ℕ) → j < from.k → has_top j (run_before boxes w.runs (parent_at boxes from.k) from.k) ≡ not (nat_lt j from.first)

-- of the box at k and the boxes round it with their top margins in the run, this is the outermost
pub record IsOutermost (boxes : List FlowBox) (first k outermost : ℕ) : Type 0 where
  pub positive : 0 < outermost
  pub most : outermost ≤ k
  pub inside : IsAround boxes outermost (k + 1)
  pub from : outermost < k → first ≤ outermost
  pub parent : parent_at boxes outermost < first

-- the look ahead begins before the box at k, whose run has the top margins from `first` on
pub record IsOutset (boxes : List FlowBox) (from : Outset) : Type 0 where
  pub within : from.k < length boxes
  pub least : 0 < from.first
  pub most : from.first ≤ from.k
  pub is_outermost : IsOutermost boxes from.first from.k from.outermost

-- a box that is open at a place, which has the box of the look ahead in it and stands as high as that
pub record OpenHolder (boxes : List FlowBox) (w : BlockLayout) (from : Outset) (at : MarginPlace) : Type 0 where
  pub box : ℕ
  pub least : from.outermost ≤ box
  pub most : box ≤ from.k
  pub above : box ≤ at.inner
  pub inside : IsAround boxes box at.next
  pub mark : length_at w.places.marks from.k ≡ length_at w.places.marks box

-- how far a look ahead came: the margins that it read, and the place
pub record LookAheadReading : Type 0 where
  pub strut : StrutValue
  pub at : MarginPlace

abbrev pub reading : StrutValue → ℕ → ℕ → LookAheadReading
reading strut p m = record { strut = strut; at = margin_place p m }

-- the strut holds the margins of the run that comes to the place
pub record ReadsMargins (boxes : List FlowBox) (w : BlockLayout) (from : Outset) (so_far : LookAheadReading) : Type 0 where
  pub strut_holds : Holds so_far.strut (margins (run_before boxes w.runs so_far.at.inner so_far.at.next))
  pub own : from.outermost < so_far.at.next → has_top from.outermost (run_before boxes w.runs so_far.at.inner so_far.at.next) ≡ true
  pub holder : from.k < so_far.at.next → OpenHolder boxes w from so_far.at

-- the strut holds all margins that there are between the start of the run and the top border edge of the box at k
pub record ReadsAll (boxes : List FlowBox) (w : BlockLayout) (k : ℕ) (strut : StrutValue) : Type 0 where
  pub all : List ℤ
  pub strut_holds : Holds strut all
  pub mark : length_at w.places.marks k ≡ start_before boxes w (parent_at boxes k) k +ℤ collapse all

-- the look ahead came so far
pub record IsReading (boxes : List FlowBox) (from : Outset) (so_far : LookAheadReading) : Type 0 where
  pub fits : StrutFits so_far.strut
  pub place : IsPlace boxes so_far.at.inner so_far.at.next
  pub begun : from.k ≤ so_far.at.next
  pub first_place : so_far.at.next ≡ from.k → so_far.at.inner ≡ parent_at boxes from.k
  pub above : from.outermost < so_far.at.next → from.outermost ≤ so_far.at.inner
  pub inside : from.outermost < so_far.at.next → IsAround boxes from.outermost so_far.at.next
  pub reads : (w : BlockLayout) → IsBlockLayout boxes w → ComesTo boxes w from → ReadsMargins boxes w from so_far

-- the look ahead came to its end
pub record HasLookedAhead (boxes : List FlowBox) (from : Outset) (strut : StrutValue) : Type 0 where
  pub fits : StrutFits strut
  pub reads_all : (w : BlockLayout) → IsBlockLayout boxes w → ComesTo boxes w from → ReadsAll boxes w from.k strut
