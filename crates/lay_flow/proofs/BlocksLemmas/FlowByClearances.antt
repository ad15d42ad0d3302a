-- Whichever boxes have clearance, a context has a flow: box after box has its mark by what is in those before it, and its place by
-- its mark.
use Rattle.std.proofs.Common.{◌≡◌, ℕ, zero, suc, ◌-◌, ◌<◌, ◌≤◌, ◌+ℤ◌, List, [], ◌∷◌, ◌++◌, length, slice_index_or, refl, sym, ap, ◌∙◌, arith, inl, inr, Option, None, subst}
use Rattle.std.specs.Int.{int_max}
use Rattle.std.proofs.lemmas.Bool.{cases_lt}
use Rattle.std.proofs.lemmas.Grind.{elements}
use Rattle.lay_units.specs.declared.length.Unit.{Unit as Length}
use Rattle.lay_units.specs.Lengths.{no_length}
use Rattle.lay_floats.specs.declared.requests.Clear.TheVariants.{Both as clear_both}
use Rattle.lay_lines.specs.Laws.{SomeLines}
use Rattle.lay_flow.specs.declared.blocks.flow_box.FlowBox.{FlowBox}
use Rattle.lay_flow.specs.Blocks.Boxes.{parent_at}
use Rattle.lay_flow.specs.Blocks.Lengths.{length_at}
use Rattle.lay_flow.specs.Blocks.MarginRuns.{HasRuns, Runs, block_at}
use Rattle.lay_flow.specs.Blocks.BlockLayout.{BlockLayout, Positions}
use Rattle.lay_flow.specs.Blocks.BlockPositions.{HasPositions}
use Rattle.lay_flow.specs.Blocks.BlockFloats.{Spot, ceiling, floats_before, no_spot, spot_at}
use Rattle.lay_flow.specs.Blocks.ContextFlow.{Flow, IsFlowByClearances}
use Rattle.lay_flow.specs.Blocks.FlowBoxes.{IsFlowTree}
use Rattle.lay_flow.specs.Blocks.Laws.{SomeFlowByClearances}
use Rattle.lay_flow.proofs.Cited.{some_clear_edge_lem}
use Rattle.lay_flow.proofs.BlocksLemmas.BlockLayoutLaws.{layout_there, positions_in}
use Rattle.lay_flow.proofs.BlocksLemmas.BoxTrees.{parent_before, root_parent}
use Rattle.lay_flow.proofs.BlocksLemmas.FloatLists.{floats_same}
use Rattle.lay_flow.proofs.BlocksLemmas.FlowBoxFacts.{root_flows, root_not_solid}
use Rattle.lay_flow.proofs.BlocksLemmas.PositionsUpTo.{marks_up_to}
use Rattle.lay_flow.proofs.BlocksLemmas.Standing.{Standing, Stands, some_standing, stands_too}

-- an entry more at the end of a column
kept_at : {A : Type 0} (xs : List A) (x other : A) (k : ℕ) → k < length xs → slice_index_or xs k other ≡ slice_index_or (xs ++ x ∷ []) k other
kept_at xs x other k lt = grind (arith, elements, lt)

last_at : {A : Type 0} (xs : List A) (x other : A) (n : ℕ) → length xs ≡ n → slice_index_or (xs ++ x ∷ []) n other ≡ x
last_at xs x other n e = grind (arith, elements, e)

longer : {A : Type 0} (xs : List A) (x : A) (n : ℕ) → length xs ≡ n → length (xs ++ x ∷ []) ≡ suc n
longer xs x n e = grind (arith, elements, e)

module _ (boxes : List FlowBox) (are : IsFlowTree boxes) (r : Runs) (edges : List Length) where
  abbrev layout_by : List Length → Option Length → Positions → BlockLayout
  layout_by depths floats s = record { extents = record { depths = depths; floats = floats }; clear_edges = edges; runs = r; places = s }

  -- the box at k stands by these marks
  abbrev StandsBy : List Length → List Spot → List Length → ℕ → Type 0
  StandsBy marks places depths k = Stands boxes k (floats_before boxes places k) (length_at marks k) (ceiling boxes marks k) (spot_at places k) (length_at depths k)

  -- the boxes before n stand, and nothing is known of what is in those from there on
  record StandTo (n : ℕ) : Type 0 where
    pub depths : List Length
    pub places : List Spot
    pub positions : Positions
    pub depths_length : length depths ≡ n
    pub places_length : length places ≡ n
    pub has_positions : HasPositions boxes (layout_by depths None positions)
    pub stands : (k : ℕ) → k < n → StandsBy positions.marks places depths k

  parent_within : (k n : ℕ) → k ≤ n → n < length boxes → parent_at boxes k ≤ n
  parent_within zero n le within = let e = root_parent boxes are.tree in omega (arith, e)
  parent_within (suc k) n le within = let less = parent_before boxes are.tree (suc k) (omega arith) (omega (arith, le, within)) in omega (arith, less, le)

  ceiling_same : (marks others : List Length) (k n : ℕ) → k ≤ n → n < length boxes → ((j : ℕ) → j ≤ n → length_at marks j ≡ length_at others j) → ceiling boxes marks k ≡ ceiling boxes others k
  ceiling_same marks others k n le within same =
      let mine = same k le in
      let over = same (parent_at boxes k) (parent_within k n le within) in
      λ i. int_max (mine i) (over i +ℤ (block_at boxes (parent_at boxes k)).edge_top.0)

  module _ (some_lines : SomeLines) (n : ℕ) (within : n < length boxes) (was : StandTo n) where
    new : Standing some_lines boxes n (floats_before boxes was.places n) (length_at was.positions.marks n) (ceiling boxes was.positions.marks n)
    new = some_standing some_lines boxes n (floats_before boxes was.places n) (length_at was.positions.marks n) (ceiling boxes was.positions.marks n)

    abbrev deeper : List Length
    deeper = was.depths ++ record { 0 = new.1 } ∷ []

    abbrev placed : List Spot
    placed = was.places ++ new.0 ∷ []

    next : (s : Positions) × HasPositions boxes (layout_by deeper None s)
    next = positions_in boxes (layout_by deeper None was.positions) are.tree are.some

    depth_kept : (j : ℕ) → j < n → length_at was.depths j ≡ length_at deeper j
    depth_kept j lt = let l = was.depths_length in ap (λ (v : Length). v.0) (kept_at was.depths (record { 0 = new.1 }) no_length j (omega (arith, l, lt)))

    spot_kept : (j : ℕ) → j < n → spot_at was.places j ≡ spot_at placed j
    spot_kept j lt = let l = was.places_length in kept_at was.places new.0 no_spot j (omega (arith, l, lt))

    marks_kept : (j : ℕ) → j ≤ n → length_at was.positions.marks j ≡ length_at (next.0).marks j
    marks_kept = marks_up_to boxes are.tree (layout_by was.depths None was.positions) (layout_by deeper None next.0) was.has_positions next.1 n (λ j low lt. depth_kept j lt) (λ j le c. refl) are.some within

    stand_next : StandTo (suc n)
    stand_next = record {
      depths = deeper;
      places = placed;
      positions = next.0;
      depths_length = longer was.depths (record { 0 = new.1 }) n was.depths_length;
      places_length = longer was.places new.0 n was.places_length;
      has_positions = next.1;
      stands = λ k lt. elim (cases_lt k n) [
        | inl low ↦ stands_too boxes k (floats_before boxes was.places k) (floats_before boxes placed k) (length_at was.positions.marks k) (length_at (next.0).marks k)
            (ceiling boxes was.positions.marks k) (ceiling boxes (next.0).marks k) (spot_at was.places k) (spot_at placed k) (length_at was.depths k) (length_at deeper k)
            (floats_same boxes was.places placed k (λ j less. spot_kept j (omega (arith, less, low)))) (marks_kept k (omega (arith, low)))
            (ceiling_same was.positions.marks (next.0).marks k n (omega (arith, low)) within marks_kept) (spot_kept k low) (depth_kept k low) (was.stands k low)
        | inr ge ↦ (let e : k ≡ n = omega (arith, lt, ge) in subst (StandsBy (next.0).marks placed deeper) (sym e) here)
      ];
    }
      where
        here : StandsBy (next.0).marks placed deeper n
        here = stands_too boxes n (floats_before boxes was.places n) (floats_before boxes placed n) (length_at was.positions.marks n) (length_at (next.0).marks n)
            (ceiling boxes was.positions.marks n) (ceiling boxes (next.0).marks n) new.0 (spot_at placed n) new.1 (length_at deeper n)
            (floats_same boxes was.places placed n spot_kept) (marks_kept n (omega arith)) (ceiling_same was.positions.marks (next.0).marks n n (omega arith) within marks_kept)
            (sym (last_at was.places new.0 no_spot n was.places_length)) (sym (ap (λ (v : Length). v.0) (last_at was.depths (record { 0 = new.1 }) no_length n was.depths_length))) new.2

  stand_to : SomeLines → (n : ℕ) → n ≤ length boxes → StandTo n
  stand_to some_lines zero le =
      let first = positions_in boxes (layout_by [] None (record { starts = []; marks = []; heights = [] })) are.tree are.some in
      record {
        depths = [];
        places = [];
        positions = first.0;
        depths_length = refl;
        places_length = refl;
        has_positions = first.1;
        stands = λ k lt. absurd (omega (arith, lt));
      }
  stand_to some_lines (suc n) le = stand_next some_lines n (omega (arith, le)) (stand_to some_lines n (omega (arith, le)))

  module _ (has_runs : HasRuns boxes r) (edges_length : length edges ≡ length boxes) (all : StandTo (length boxes)) where
    abbrev FlowHere : Type 0
    FlowHere = (f : Flow) × (f.layout.runs ≡ r) × (f.layout.clear_edges ≡ edges) × IsFlowByClearances boxes f

    flow_there : FlowHere
    flow_there =
        let bottom = some_clear_edge_lem (floats_before boxes all.places (length boxes)) clear_both in
        let last = positions_in boxes (layout_by all.depths bottom.0 all.positions) are.tree are.some in
        let n : ℕ = length boxes - 1 in
        let some = are.some in
        let inner : n < length boxes = omega (arith, some) in
        let marks : (j : ℕ) → j ≤ n → length_at all.positions.marks j ≡ length_at (last.0).marks j =
        marks_up_to boxes are.tree (layout_by all.depths None all.positions) (layout_by all.depths bottom.0 last.0) all.has_positions last.1 n (λ j low lt. refl) (λ j le c. refl) some inner in
        let stands : (k : ℕ) → k < length boxes → StandsBy (last.0).marks all.places all.depths k = λ k lt.
        stands_too boxes k _ _ _ _ _ _ _ _ _ _ refl (marks k (omega (arith, lt))) (ceiling_same all.positions.marks (last.0).marks k n (omega (arith, lt)) inner marks) refl refl (all.stands k lt) in (
          record { layout = layout_by all.depths bottom.0 last.0; places = all.places },
          refl,
          refl,
          record {
            layout = record { has_runs = has_runs; has_positions = last.1 };
            extents_length = all.depths_length;
            clear_edges_length = edges_length;
            places_length = all.places_length;
            float = λ k side low lt e. (stands k lt).float side e;
            solid = λ k low lt solid. (stands k lt).solid solid;
            no_place_root = (stands 0 some).nowhere (root_flows boxes are) (root_not_solid boxes are);
            no_place_else = λ k low lt none flows. (stands k lt).nowhere none flows;
            lines = λ k lt lines. (stands k lt).lines lines;
            no_lines_else = λ k lt none. (stands k lt).lineless none;
            solid_extent = λ k low lt solid. (stands k lt).solid_extent solid;
            lines_extent = λ k lt lines. (stands k lt).lines_extent lines;
            no_extent = λ k lt none. (stands k lt).no_extent none;
            bottom = bottom.1;
          },
        )

pub some_flow_by_clearances_lem : SomeLines → SomeFlowByClearances
some_flow_by_clearances_lem some_lines boxes clears edges are clears_length edges_length =
    let there = layout_there boxes (record { depths = []; floats = None }) edges clears are.tree are.some clears_length in
    let found = flow_there boxes are there.0 edges there.3.has_runs edges_length (stand_to boxes are there.0 edges some_lines (length boxes) (omega arith)) in
    (found.0, ap (λ (r : Runs). r.clears) found.1 ∙ there.2, found.2, found.3)
