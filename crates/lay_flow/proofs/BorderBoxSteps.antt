-- The list of border boxes that grows, and the columns of a pass beside them.
use Rattle.std.proofs.Common.{◌≡◌, ℕ, zero, suc, ◌+◌, ◌<◌, ◌≤◌, ◌==◌, Bool, true, false, pos, List, [], ◌∷◌, ◌++◌, All, length, map, if◌then◌else◌, refl, sym, ap, ◌∙◌, arith, inl, inr, subst}
use Rattle.std.proofs.lemmas.List.Elements.{All-append, All-cons, All-head, All-nil, All-tail, All-weaker}
use Rattle.std.proofs.lemmas.Bool.{cases_lt}
use Rattle.std.proofs.lemmas.Grind.{elements}
use Rattle.std.proofs.lemmas.Int.{ints}
use Rattle.std.proofs.lemmas.List.{length-map}
use Rattle.lay_floats.specs.declared.requests.Place.{Place}
use Rattle.lay_flow.specs.declared.blocks.flow_box.FlowBox.{FlowBox}
use Rattle.lay_flow.specs.declared.blocks.flow_places.BoxPlace.{BoxPlace}
use Rattle.lay_flow.specs.declared.flow_columns.FlowColumns.{FlowColumns}
use Rattle.lay_flow.specs.Blocks.Boxes.{box_at}
use Rattle.lay_flow.specs.Blocks.BlockFloats.{Spot, no_place, place_at, spot_at}
use Rattle.lay_flow.specs.declared.pass.Pass.{Pass}
use Rattle.lay_flow.specs.Blocks.Weights.{weight}
use Rattle.lay_floats.specs.declared.requests.NodePlace.{NodePlace}
use Rattle.lay_floats.specs.Within.{IsWithin}
use Rattle.lay_lines.specs.declared.row.Ended.{Ended}
use Rattle.lay_lines.specs.Lines.{LinesValue, LinesWithin, NodePlaceWithin, RowWithin}
use Rattle.lay_flow.specs.Blocks.FlowBoxes.{AreFlowBoxes}
use Rattle.lay_flow.specs.Blocks.FlowPlaces.{AreNearRows, IsFlowOf, border_box, border_box_in, box_place_at, line_places, own_place, place_in_lines, place_or, AreCorners, corner_at, joined}
use Rattle.lay_flow.specs.Pass.Columns.{AreBorderBoxes, AreColumnsOf, AreNearColumns, IsFarPlace}
use Rattle.lay_flow.specs.Blocks.Lengths.{length_at}
use Rattle.lay_flow.specs.Pass.Bounds.{AreBoxHeights, AreNear, reach}
use Rattle.lay_flow.specs.Pass.Known.{IsFinished}
use Rattle.lay_flow.specs.Pass.Placed.{IsPlaceNear}
use Rattle.lay_flow.proofs.PlaceSteps.{lines_wider}

read_before : (ps : List BoxPlace) (p : BoxPlace) (k : ℕ) → k < length ps → box_place_at (ps ++ p ∷ []) k ≡ box_place_at ps k
read_before ps p k lt = grind (arith, elements)

read_last : (ps : List BoxPlace) (p : BoxPlace) (k : ℕ) → k ≡ length ps → box_place_at (ps ++ p ∷ []) k ≡ p
read_last ps p k is = grind (arith, elements)

pub one_longer : (ps : List BoxPlace) (p : BoxPlace) → length (ps ++ p ∷ []) ≡ length ps + 1
one_longer ps p = grind (arith, elements)

-- what holds of each place holds with one more
pub one_more : (P : ℕ → BoxPlace → Type 0) (ps : List BoxPlace) (n : ℕ) (p : BoxPlace) → length ps ≡ n → ((k : ℕ) → k < n → P k (box_place_at ps k)) → P n p → (k : ℕ) → k < n + 1 → P k (box_place_at (ps ++ p ∷ []) k)
one_more P ps n p counted so_far is k lt = elim (cases_lt k n) [
  | inl low ↦ subst (P k) (sym (read_before ps p k (omega (arith, counted, low)))) (so_far k low)
  | inr high ↦ (let q : k ≡ n = omega (arith, lt, high) in subst (P k) (sym (read_last ps p k (q ∙ sym counted))) (subst (λ (j : ℕ). P j p) (sym q) is))
]

far_place : (w : ℕ) (p : Place) → w ≤ 16711680 → IsWithin (reach w) p.x.0 → IsWithin (reach w) p.y.0 → IsFarPlace p
far_place w p light x y = record {
  x = (omega (arith, ints, light, x), omega (arith, ints, light, x));
  y = (omega (arith, ints, light, y), omega (arith, ints, light, y));
}

far_nowhere : IsFarPlace no_place
far_nowhere = record { x = (omega (arith, ints), omega (arith, ints)); y = (omega (arith, ints), omega (arith, ints)) }

-- the lists of places, one after the other
joined_lines : (ps : List Spot) → line_places ps ≡ joined (map (λ p. p.lines.places) ps)
joined_lines [] = refl
joined_lines (p ∷ ps) = ap (λ (qs : List NodePlace). p.lines.places ++ qs) (joined_lines ps)

-- what holds of all that is chosen from holds of the choice
chosen : (P : Place → Type 0) (p : Place) (k : ℕ) (qs : List NodePlace) → P p → All (λ (q : NodePlace). P q.place) qs → P (place_or p k qs)
chosen P p k [] here all = here
chosen P p k (q ∷ qs) here all = chosen P (if q.node == k then q.place else p) k qs (one (q.node == k)) (All-tail (λ (q : NodePlace). P q.place) q qs all)
  where
    one : (b : Bool) → P (if b then q.place else p)
    one true = All-head (λ (q : NodePlace). P q.place) q qs all
    one false = here

column_at : (ps : List Spot) (k : ℕ) → corner_at (map (λ p. p.place) ps) k ≡ place_at ps k
column_at [] k = refl
column_at (p ∷ ps) zero = refl
column_at (p ∷ ps) (suc k) = column_at ps k

all_met : (w : ℕ) (ps : List Spot) → ((k : ℕ) → k < length ps → IsPlaceNear w (spot_at ps k)) → All (NodePlaceWithin (reach w)) (line_places ps)
all_met w [] near = All-nil (NodePlaceWithin (reach w))
all_met w (p ∷ ps) near = All-append (NodePlaceWithin (reach w)) p.lines.places (line_places ps) (near 0 (omega arith)).lines.places (all_met w ps (λ k lt. near (suc k) (omega (arith, lt))))

all_rows : (w : ℕ) (ps : List Spot) → w ≤ 16711680 → ((k : ℕ) → k < length ps → IsPlaceNear w (spot_at ps k)) → AreNearRows (map (λ p. p.lines.rows) ps)
all_rows w [] light near = All-nil (λ (rows : List Ended). All (RowWithin (pos 1152921504606846976)) rows)
all_rows w (p ∷ ps) light near = All-cons (λ (rows : List Ended). All (RowWithin (pos 1152921504606846976)) rows) p.lines.rows (map (λ p. p.lines.rows) ps) (lines_near p.lines (near 0 (omega arith)).lines) (all_rows w ps light (λ k lt. near (suc k) (omega (arith, lt))))
  where
    lines_near : (v : LinesValue) → LinesWithin (reach w) v → All (RowWithin (pos 1152921504606846976)) v.rows
    lines_near v within = (lines_wider (reach w) (pos 1152921504606846976) v (omega (arith, ints, light)) within).rows

module _ (boxes : List FlowBox) (flow : Pass) (corners : List Place) (is : IsFinished boxes flow) (put : AreCorners (length boxes) flow.placing.met.items corners) where
  corners_put : AreCorners (length boxes) (map (λ p. p.lines.places) is.places) corners
  corners_put = subst (λ (met : List (List NodePlace)). AreCorners (length boxes) met corners) (sym is.are.met_are) put

  counted : length is.places ≡ length boxes
  counted = ap length is.context.places_are ∙ is.context.is_flow.by_clearances.places_length

  corner_is : (k : ℕ) → k < length boxes → corner_at corners k ≡ place_in_lines is.places k
  corner_is k lt = corners_put.each k lt ∙ ap (place_or no_place k) (sym (joined_lines is.places))

  far_at : AreFlowBoxes boxes → (k : ℕ) → k < length boxes → IsFarPlace (place_at is.places k)
  far_at input k lt = let near = is.near k lt in far_place (weight boxes (length boxes)) (place_at is.places k) input.light near.x near.y

  met_far : AreFlowBoxes boxes → All (λ (q : NodePlace). IsFarPlace q.place) (line_places is.places)
  met_far input = All-weaker (NodePlaceWithin (reach (weight boxes (length boxes)))) (λ (q : NodePlace). IsFarPlace q.place)
      (λ q near. far_place (weight boxes (length boxes)) q.place input.light near.x near.y) (line_places is.places)
      (all_met (weight boxes (length boxes)) is.places (λ k lt. is.near k (let c = counted in omega (arith, c, lt))))

  corner_far : AreFlowBoxes boxes → (k : ℕ) → k < length boxes → IsFarPlace (corner_at corners k)
  corner_far input k lt = subst IsFarPlace (sym (corner_is k lt)) (chosen IsFarPlace no_place k (line_places is.places) far_nowhere (met_far input))

  place_far : AreFlowBoxes boxes → (k : ℕ) → k < length boxes → IsFarPlace (corner_at flow.placing.places.items k)
  place_far input k lt = subst (λ (ps : List Place). IsFarPlace (corner_at ps k)) is.are.places_are (subst IsFarPlace (sym (column_at is.places k)) (far_at input k lt))

  rows_near : AreFlowBoxes boxes → AreNearRows flow.placing.rows.items
  rows_near input = subst AreNearRows is.are.rows_are (all_rows (weight boxes (length boxes)) is.places input.light (λ k lt. is.near k (let c = counted in omega (arith, c, lt))))

module _ (boxes : List FlowBox) (flow : Pass) (out : FlowColumns) (corners : List Place) (is : IsFinished boxes flow) (put : AreCorners (length boxes) flow.placing.met.items corners)
    (tops : out.tops.items ≡ flow.marks.items) (heights : out.heights.items ≡ flow.heights.items) (places : out.places.items ≡ flow.placing.places.items) (rows : out.rows.items ≡ flow.placing.rows.items) (corner : out.corners.items ≡ corners) where
  pub columns_of : AreColumnsOf boxes out
  columns_of = record {
    places = is.places;
    are = rw (tops, heights) is.context;
    places_are = is.are.places_are ∙ sym places;
    rows_are = is.are.rows_are ∙ sym rows;
    corners_are = rw corner (corners_put boxes flow corners is put);
  }

  pub near_columns : AreFlowBoxes boxes → AreNear flow.marks.items → AreBoxHeights boxes flow.heights.items → AreNearColumns boxes out
  near_columns input near sized =
      let mine : length flow.marks.items ≡ length boxes = ap length is.context.tops_are ∙ is.context.is_flow.by_clearances.layout.has_positions.marks_length in
      let high : length flow.heights.items ≡ length boxes = ap length is.context.heights_are ∙ is.context.is_flow.by_clearances.layout.has_positions.heights_length in
      record {
        tops_length = rw tops mine;
        heights_length = rw heights high;
        places_length = rw places (sym (ap length is.are.places_are) ∙ length-map is.places (λ (p : Spot). p.place) ∙ counted boxes flow corners is put);
        corners_length = rw corner put.length_is;
        top = λ k lt. rw tops (near k (omega (arith, lt, mine)));
        height = λ k lt flow. rw heights (sized k (omega (arith, lt, high)) flow);
        place = λ k lt. rw places (place_far boxes flow corners is put input k lt);
        corner = λ k lt. rw corner (corner_far boxes flow corners is put input k lt);
        rows = rw rows (rows_near boxes flow corners is put input);
      }

module _ (boxes : List FlowBox) (columns : FlowColumns) (is : AreColumnsOf boxes columns) where
  in_lines_is : (k : ℕ) → k < length boxes → corner_at columns.corners.items k ≡ place_in_lines is.places k
  in_lines_is k lt = is.corners_are.each k lt ∙ ap (place_or no_place k) (sym (joined_lines is.places))

  place_is : (k : ℕ) → corner_at columns.places.items k ≡ place_at is.places k
  place_is k = ap (λ (ps : List Place). corner_at ps k) (sym is.places_are) ∙ column_at is.places k

  pub is_flow_of : (out : List BoxPlace) → AreBorderBoxes boxes columns out → IsFlowOf boxes (record { boxes = out; lines = columns.rows.items })
  is_flow_of out of = record {
    flow = is.are.flow;
    is_flow = is.are.is_flow;
    places = record {
      count = of.count;
      each = λ k lt. of.each k lt
          ∙ (λ i. border_box (box_at boxes k).kind (record { 0 = length_at (is.are.tops_are i) k }) (record { 0 = length_at (is.are.heights_are i) k }) (own_place (box_at boxes k).kind (place_is k i) (in_lines_is k lt i)))
          ∙ ap (λ (ps : List Spot). border_box_in boxes (record is.are.flow { places = ps }) k) is.are.places_are;
      lines = sym is.rows_are ∙ ap (map (λ p. p.lines.rows)) is.are.places_are;
    };
  }
