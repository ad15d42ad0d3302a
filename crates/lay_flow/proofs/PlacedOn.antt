-- The columns of the code beside the spots that they are of.
use Rattle.std.proofs.Common.{◌≡◌, ℕ, ◌+◌, false, ◌<◌, ◌≤◌, ℤ, List, [], ◌∷◌, ◌++◌, length, true, arith, sym, ap, ◌∙◌, subst}
use Rattle.std.proofs.lemmas.Int.{ints}
use Rattle.std.proofs.lemmas.List.{length_push, map_push, length-map}
use Rattle.lay_doc.specs.Tree.{IsTree}
use Rattle.lay_units.specs.declared.length.Unit.{Unit as Length}
use Rattle.lay_flow.specs.declared.blocks.flow_box.FlowBox.{FlowBox}
use Rattle.lay_flow.specs.declared.placement.Placing.{Placing as PlacingState}
use Rattle.lay_flow.specs.Blocks.Boxes.{parents_of}
use Rattle.lay_flow.specs.Blocks.Lengths.{length_at}
use Rattle.lay_flow.specs.Blocks.BlockFloats.{Spot}
use Rattle.lay_flow.specs.Pass.State.{PassState, clearances_of}
use Rattle.lay_flow.specs.Blocks.BlockLayout.{BlockLayout}
use Rattle.lay_flow.specs.Blocks.Children.{flag_at}
use Rattle.lay_flow.specs.Pass.Knows.{IsCandidate, MayBe}
use Rattle.lay_flow.specs.Pass.Clears.{IsEdgeWithout}
use Rattle.lay_flow.specs.Blocks.FlowBoxes.{AreFlowBoxes}
use Rattle.lay_flow.specs.Blocks.MarginRuns.{block_at}
use Rattle.lay_flow.specs.Blocks.BlockPositions.{is_lines}
use Rattle.lay_flow.specs.Pass.Bounds.{state_of}
use Rattle.lay_flow.specs.Blocks.BlockSizes.{IsLineDepth}
use Rattle.lay_flow.specs.Pass.Placed.{Placing, PlacesTo}
use Rattle.lay_flow.proofs.BlocksLemmas.WeightFacts.{light_at}
use Rattle.lay_flow.specs.declared.pass.Pass.{Pass}
use Rattle.lay_flow.specs.Pass.Known.{ArePlaced, ArePlacedOn, AreSpotColumns, GoesOn, IsKnown, placing_of}
use Rattle.lay_flow.proofs.PassSteps.{placed_kept}
use Rattle.lay_flow.proofs.PlaceSteps.{old_place}

-- one more entry
pub counted : {A : Type 0} (old new : List A) (x : A) (k : ℕ) → length old ≡ k → new ≡ old ++ x ∷ [] → length new ≡ k + 1
counted old new x k e pushed = ap length pushed ∙ length_push old x ∙ ap (λ (n : ℕ). n + 1) e

pub places_count : (now : PlacingState) (places : List Spot) → AreSpotColumns now places → length places ≡ length now.places.items
places_count now places are = sym (length-map places (λ (p : Spot). p.place)) ∙ ap length are.places_are

pub placed_count : (boxes : List FlowBox) (marks : List Length) (now : PlacingState) (n : ℕ) → ArePlaced boxes marks now n → length now.places.items ≡ n
placed_count boxes marks now n is = sym (places_count now is.places is.are) ∙ is.to.places_length

-- of the boxes before the first without an entry
pub placed_so_far : (boxes : List FlowBox) (marks : List Length) (now : PlacingState) (n : ℕ) → ArePlaced boxes marks now n → (places : List Spot) → PlacesTo boxes marks (placing_of now places) (length now.places.items) → PlacesTo boxes marks (placing_of now places) n
placed_so_far boxes marks now n is places = subst (PlacesTo boxes marks (placing_of now places)) (placed_count boxes marks now n is)

module _ (boxes : List FlowBox) (old new : List Length) (now : PlacingState) (places : List Spot) (tree : IsTree (parents_of boxes)) (are : AreSpotColumns now places)
    (few : length places ≤ length boxes) (placed : PlacesTo boxes old (placing_of now places) (length places)) (same : (j : ℕ) → j < length places → length_at new j ≡ length_at old j) where
  count : length places ≡ length now.places.items
  count = places_count now places are

  kept : PlacesTo boxes new (placing_of now places) (length now.places.items)
  kept = subst (PlacesTo boxes new (placing_of now places)) count (placed_kept boxes old new (placing_of now places) (length places) tree few placed same)

  -- boxes stay placed where the marks before them are the same
  pub kept_places : ArePlaced boxes new now (length now.places.items)
  kept_places = record { places = places; are = are; to = kept }

module _ (boxes : List FlowBox) (old new : List Length) (now then : PlacingState) (places : List Spot) (tree : IsTree (parents_of boxes)) (are : AreSpotColumns now places)
    (few : length places ≤ length boxes) (placed : PlacesTo boxes old (placing_of now places) (length places)) (same : (j : ℕ) → j < length places → length_at new j ≡ length_at old j)
    (goes : GoesOn boxes new now then) where
  -- and more are placed
  pub placed_on : ArePlacedOn boxes new then places
  placed_on = goes places are (subst (PlacesTo boxes new (placing_of now places)) (places_count now places are) (placed_kept boxes old new (placing_of now places) (length places) tree few placed same))

-- the boxes that a pass has placed stay so where the boxes before its run keep their marks
module _ (boxes : List FlowBox) (tree : IsTree (parents_of boxes)) (flow : Pass) (p m : ℕ) (known : IsKnown boxes flow p m) (marks : List Length)
    (same : (j : ℕ) → j < flow.first → length_at marks j ≡ length_at flow.marks.items j) where
  few : length known.places ≤ length boxes
  few = let early = known.knows.early in let most = known.knows.fits.first_most in let within = known.knows.fits.within in omega (arith, early, most, within)

  alike : (j : ℕ) → j < length known.places → length_at marks j ≡ length_at flow.marks.items j
  alike j lt = let early = known.knows.early in same j (omega (arith, lt, early))

  pub known_placed : ArePlaced boxes marks flow.placing (length flow.placing.places.items)
  known_placed = kept_places boxes flow.marks.items marks flow.placing known.places tree known.are few known.knows.placed alike

  pub known_placed_on : (then : PlacingState) → GoesOn boxes marks flow.placing then → ArePlacedOn boxes marks then known.places
  known_placed_on then goes = placed_on boxes flow.marks.items marks flow.placing then known.places tree known.are few known.knows.placed alike goes

module _ (boxes : List FlowBox) (now : PassState) (placing : Placing) (k : ℕ) where
  -- this is the mark of the box at k in each layout without clearance from it on
  abbrev pub IsMarkWithout : ℤ → Type 0
  IsMarkWithout edge =
      (w : BlockLayout) → MayBe boxes (length placing.places) placing.extents w.extents → IsCandidate boxes w (clearances_of now) k → ((j : ℕ) → k ≤ j → flag_at w.runs.clears j ≡ false) → edge ≡ length_at w.places.marks k

module _ (boxes : List FlowBox) (flow : Pass) (places : List Spot) (are : AreSpotColumns flow.placing places) (k : ℕ) (edge : ℤ) where
  -- the depths that are known are those of the spots
  pub edge_of : IsMarkWithout boxes (state_of flow) (placing_of flow.placing places) k edge → IsEdgeWithout boxes flow k edge
  edge_of is w may_be = is w (subst (λ (n : ℕ). MayBe boxes n flow.placing.extents.items w.extents) (sym (places_count flow.placing places are)) may_be)

  pub edge_known : IsEdgeWithout boxes flow k edge → IsMarkWithout boxes (state_of flow) (placing_of flow.placing places) k edge
  edge_known is w may_be = is w (subst (λ (n : ℕ). MayBe boxes n flow.placing.extents.items w.extents) (places_count flow.placing places are) may_be)

-- the lines of a box end near
pub line_depth : (boxes : List FlowBox) → AreFlowBoxes boxes → (marks : List Length) (now : Placing) (n : ℕ) → PlacesTo boxes marks now n → (k : ℕ) → k < n → n ≤ length boxes → is_lines (block_at boxes k).inside ≡ true
    → IsLineDepth (length_at marks k) (block_at boxes k).edge_top.0 (length_at now.extents k)
line_depth boxes input marks now n to k lt le lines =
    let light = light_at boxes input n le in
    let end = (to.near k lt).lines.end in
    let a = end.0 in let b = end.1 in
    let e = to.lines_extent k lt lines in
    (omega (arith, ints, a, light, e), omega (arith, ints, b, light, e))

module _ (boxes : List FlowBox) (marks : List Length) (old new : PlacingState) (places : List Spot) (are : AreSpotColumns old places) (p : Spot) (k : ℕ) (known : ArePlaced boxes marks old k)
    (pushed : new.places.items ≡ old.places.items ++ p.place ∷ []) (rows : new.rows.items ≡ old.rows.items ++ p.lines.rows ∷ []) (met : new.met.items ≡ old.met.items ++ p.lines.places ∷ []) where
  -- one more spot
  pub pushed_on : PlacesTo boxes marks (placing_of new (places ++ p ∷ [])) (k + 1) → ArePlacedOn boxes marks new places
  pushed_on to = record {
    places = places ++ p ∷ [];
    are = record {
      places_are = map_push (λ (q : Spot). q.place) places p ∙ (λ i. are.places_are i ++ p.place ∷ []) ∙ sym pushed;
      rows_are = map_push (λ (q : Spot). q.lines.rows) places p ∙ (λ i. are.rows_are i ++ p.lines.rows ∷ []) ∙ sym rows;
      met_are = map_push (λ (q : Spot). q.lines.places) places p ∙ (λ i. are.met_are i ++ p.lines.places ∷ []) ∙ sym met;
    };
    to = subst (PlacesTo boxes marks (placing_of new (places ++ p ∷ []))) (sym (counted old.places.items new.places.items p.place k (placed_count boxes marks old k known) pushed)) to;
    same = λ j lt. old_place places p j lt;
  }

-- a step more
pub placed_further : (boxes : List FlowBox) (marks : List Length) (old new : PlacingState) (n m : ℕ) → ArePlaced boxes marks old n → GoesOn boxes marks old new → length new.places.items ≡ m → ArePlaced boxes marks new m
placed_further boxes marks old new n m was goes count =
    let next = goes was.places was.are (subst (PlacesTo boxes marks (placing_of old was.places)) (sym (placed_count boxes marks old n was)) was.to) in
    record { places = next.places; are = next.are; to = subst (PlacesTo boxes marks (placing_of new next.places)) count next.to }

pub goes_further : (boxes : List FlowBox) (marks : List Length) (old mid new : PlacingState) → GoesOn boxes marks old mid → length old.places.items ≤ length mid.places.items → GoesOn boxes marks mid new → GoesOn boxes marks old new
goes_further boxes marks old mid new first le then places are to =
    let there = first places are to in
    let next = then there.places there.are there.to in
    let a = to.places_length in let b = there.to.places_length in
    record { places = next.places; are = next.are; to = next.to; same = λ j lt. next.same j (omega (arith, lt, a, b, le)) ∙ there.same j lt }

-- the boxes before the one at m are placed, if so many have an entry
pub placed_to : (boxes : List FlowBox) (marks : List Length) (now : PlacingState) (before : List Spot) (on : ArePlacedOn boxes marks now before) (m : ℕ) → length now.places.items ≡ m → PlacesTo boxes marks (placing_of now on.places) m
placed_to boxes marks now before on m count = subst (PlacesTo boxes marks (placing_of now on.places)) count on.to

-- the depths have an entry for each box
pub within_extents : (boxes : List FlowBox) (marks : List Length) (now : PlacingState) (before : List Spot) → ArePlacedOn boxes marks now before → (k : ℕ) → k < length boxes → k < length now.extents.items
within_extents boxes marks now before goes k lt = let l = goes.to.extents_length in omega (arith, l, lt)
