-- Where the boxes of a block formatting context stand (CSS 2.2, 9.4.1 and 9.5): the corner and the height of each border box,
-- and the lines in it. A block stands with its top border edge at its mark, a float with its margin box and a solid box with
-- its border box at its place. A float that lines met stands where they put it. What else stands in lines has no place here.
use Rattle.std.specs.Prelude.{ℕ, ◌≡◌, ◌<◌, ◌==◌, ◌+ℤ◌, pos, List, [], ◌∷◌, ◌++◌, All, length, map, slice_index_or, if◌then◌else◌}
use Rattle.lay_units.specs.declared.length.Unit.{Unit as Length}
use Rattle.lay_units.specs.Units.{IsBoxSize, IsNear}
use Rattle.lay_units.specs.Lengths.{no_length}
use Rattle.lay_floats.specs.declared.requests.NodePlace.{NodePlace}
use Rattle.lay_floats.specs.declared.requests.Place.{Place}
use Rattle.lay_lines.specs.Lines.{RowWithin}
use Rattle.lay_lines.specs.declared.row.Ended.{Ended}
use Rattle.lay_flow.specs.declared.blocks.flow_box.FlowBox.{FlowBox}
use Rattle.lay_flow.specs.declared.blocks.flow_box.FloatBox.{FloatBox}
use Rattle.lay_flow.specs.declared.blocks.flow_box.FlowKind.{FlowKind}
use Rattle.lay_flow.specs.declared.blocks.flow_box.FlowKind.TheVariants.{Block as block, Lines as lines, Solid as solid}
use Rattle.lay_flow.specs.declared.blocks.flow_box.FlowKind.TheVariants.{Float as float, LineFloat as line_float, Inline as inline}
use Rattle.lay_flow.specs.declared.blocks.flow_places.BoxPlace.{BoxPlace}
use Rattle.lay_flow.specs.Blocks.Lengths.{length_at}
use Rattle.lay_flow.specs.Blocks.Boxes.{box_at}
use Rattle.lay_flow.specs.Blocks.BlockFloats.{Spot, no_place, place_at}
use Rattle.lay_flow.specs.Blocks.ContextFlow.{Flow, IsContextFlow}

abbrev pub no_box_place : BoxPlace
no_box_place = record { corner = no_place; height = no_length }

abbrev pub box_place_at : List BoxPlace → ℕ → BoxPlace
box_place_at places k = slice_index_or places k no_box_place

-- the border boxes, and the lines of each box
pub record FlowPlacesValue : Type 0 where
  pub boxes : List BoxPlace
  pub lines : List (List Ended)

-- the places of the floats that lines met, box after box
abbrev pub line_places : List Spot → List NodePlace
line_places [] = []
line_places (p ∷ ps) = p.lines.places ++ line_places ps

-- the place that comes last with this number, or this one where there is none
abbrev pub place_or : Place → ℕ → List NodePlace → Place
place_or p k [] = p
place_or p k (q ∷ qs) = place_or (if q.node == k then q.place else p) k qs

-- a place in a column of places
abbrev pub corner_at : List Place → ℕ → Place
corner_at places k = slice_index_or places k no_place

-- lists of places, one after the other
abbrev pub joined : List (List NodePlace) → List NodePlace
joined [] = []
joined (ps ∷ pss) = ps ++ joined pss

-- a corner for each box: the last that these give to it
pub record AreCorners (count : ℕ) (met : List (List NodePlace)) (corners : List Place) : Type 0 where
  pub length_is : length corners ≡ count
  pub each : (k : ℕ) → k < count → corner_at corners k ≡ place_or no_place k (joined met)

-- where lines put the box at k
abbrev pub place_in_lines : List Spot → ℕ → Place
place_in_lines places k = place_or no_place k (line_places places)

abbrev pub float_border_box : FloatBox → Place → BoxPlace
float_border_box b place = record {
  corner = record { x = record { 0 = place.x.0 +ℤ b.margin.left.0 }; y = record { 0 = place.y.0 +ℤ b.margin.top.0 } };
  height = b.height;
}

-- of its place in the flow and that in lines the one that counts
abbrev pub own_place : FlowKind → Place → Place → Place
own_place (block b) place in_lines = place
own_place (lines l) place in_lines = place
own_place (solid b) place in_lines = place
own_place (float b) place in_lines = place
own_place (line_float b) place in_lines = in_lines
own_place inline place in_lines = place

-- for a box with this mark, height and place
abbrev pub border_box : FlowKind → Length → Length → Place → BoxPlace
border_box (block b) mark height place = record { corner = record { x = b.x; y = mark }; height = height }
border_box (lines l) mark height place = record { corner = record { x = l.block.x; y = mark }; height = height }
border_box (solid b) mark height place = record { corner = place; height = b.height }
border_box (float b) mark height place = float_border_box b place
border_box (line_float b) mark height place = float_border_box b place
border_box inline mark height place = no_box_place

-- the border box of the box at k in a flow
abbrev pub border_box_in : List FlowBox → Flow → ℕ → BoxPlace
border_box_in boxes f k =
    let kind = (box_at boxes k).kind in
    border_box kind (record { 0 = length_at f.layout.places.marks k }) (record { 0 = length_at f.layout.places.heights k })
    (own_place kind (place_at f.places k) (place_in_lines f.places k))

-- these are the places of the boxes in a flow
pub record AreFlowPlaces (boxes : List FlowBox) (f : Flow) (out : FlowPlacesValue) : Type 0 where
  pub count : length out.boxes ≡ length boxes
  pub each : (k : ℕ) → k < length boxes → box_place_at out.boxes k ≡ border_box_in boxes f k
  pub lines : out.lines ≡ map (λ p. p.lines.rows) f.places

-- these are the places of the boxes of a context
pub record IsFlowOf (boxes : List FlowBox) (out : FlowPlacesValue) : Type 0 where
  pub flow : Flow
  pub is_flow : IsContextFlow boxes flow
  pub places : AreFlowPlaces boxes flow out

-- corners at most 2^60 units away, and heights of border boxes
pub record IsNearPlace (p : BoxPlace) : Type 0 where
  pub x : IsNear p.corner.x.0
  pub y : IsNear p.corner.y.0
  pub height : IsBoxSize p.height.0

abbrev pub AreNearPlaces : List BoxPlace → Type 0
AreNearPlaces places = (k : ℕ) → k < length places → IsNearPlace (box_place_at places k)

-- the tops of lines and where they end are at most 2^60 units away
abbrev pub AreNearRows : List (List Ended) → Type 0
AreNearRows all = All (λ rows. All (RowWithin (pos 1152921504606846976)) rows) all
