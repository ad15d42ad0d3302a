-- What the code of a pass knows at each place: its columns have each placement but for the floats that its lines leave.
use Rattle.std.specs.Prelude.{ℕ, ◌≡◌, List, length, map}
use Rattle.lay_units.specs.declared.length.Unit.{Unit as Length}
use Rattle.lay_flow.specs.declared.blocks.flow_box.FlowBox.{FlowBox}
use Rattle.lay_flow.specs.declared.pass.Pass.{Pass}
use Rattle.lay_flow.specs.declared.placement.Placing.{Placing as PlacingState}
use Rattle.lay_flow.specs.Blocks.BlockFloats.{Spot}
use Rattle.lay_flow.specs.Blocks.MarginPlace.{margin_place}
use Rattle.lay_flow.specs.Pass.Bounds.{state_of}
use Rattle.lay_flow.specs.Blocks.ContextFlow.{ArePlacesInContext}
use Rattle.lay_flow.specs.Pass.Placed.{AreCornersNear, Placing, PlacesTo}
use Rattle.lay_flow.specs.Pass.Knows.{ArePlacesKept, IsReady, Knows}

abbrev pub placing_of : PlacingState → List Spot → Placing
placing_of p places = record { extents = p.extents.items; floats = p.floats; places = places }

-- the columns are those of these spots
pub record AreSpotColumns (now : PlacingState) (places : List Spot) : Type 0 where
  pub places_are : map (λ p. p.place) places ≡ now.places.items
  pub rows_are : map (λ p. p.lines.rows) places ≡ now.rows.items
  pub met_are : map (λ p. p.lines.places) places ≡ now.met.items

-- the boxes before the one at n are placed
pub record ArePlaced (boxes : List FlowBox) (marks : List Length) (now : PlacingState) (n : ℕ) : Type 0 where
  pub places : List Spot
  pub are : AreSpotColumns now places
  pub to : PlacesTo boxes marks (placing_of now places) n

-- as many boxes are placed as have an entry, and what was known before is kept
pub record ArePlacedOn (boxes : List FlowBox) (marks : List Length) (now : PlacingState) (before : List Spot) : Type 0 where
  pub places : List Spot
  pub are : AreSpotColumns now places
  pub to : PlacesTo boxes marks (placing_of now places) (length now.places.items)
  pub same : ArePlacesKept before places

-- from each way in which the boxes may be placed that have an entry it goes on to more
abbrev pub GoesOn : List FlowBox → List Length → PlacingState → PlacingState → Type 0
GoesOn boxes marks old new = (places : List Spot) → AreSpotColumns old places
    → PlacesTo boxes marks (placing_of old places) (length old.places.items) → ArePlacedOn boxes marks new places

-- the pass is at the place (p, m)
pub record IsKnown (boxes : List FlowBox) (flow : Pass) (p m : ℕ) : Type 0 where
  pub places : List Spot
  pub are : AreSpotColumns flow.placing places
  pub knows : Knows boxes (state_of flow) (placing_of flow.placing places) (margin_place p m)

-- the pass is before the top margin of the box at k
pub record IsReadyAt (boxes : List FlowBox) (flow : Pass) (k : ℕ) : Type 0 where
  pub places : List Spot
  pub are : AreSpotColumns flow.placing places
  pub ready : IsReady boxes (state_of flow) (placing_of flow.placing places) k

-- all boxes are placed
pub record IsFinished (boxes : List FlowBox) (flow : Pass) : Type 0 where
  pub places : List Spot
  pub are : AreSpotColumns flow.placing places
  pub context : ArePlacesInContext boxes flow.marks.items flow.heights.items places
  pub near : AreCornersNear boxes places
