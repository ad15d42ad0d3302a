-- What is known once it is decided whether a box has clearance.
use Rattle.std.proofs.Common.{◌≡◌, ◌⊎◌, ℕ, ◌+◌, ◌<◌, ◌≤◌, not, nat_lt, Bool, true, false, ℤ, ◌-ℤ◌, List, [], length, refl, sym, ap, ◌∙◌, arith, inl, inr, Option, None, subst}
use Rattle.std.proofs.lemmas.Bool.{cases_lt, cases_eq}
use Rattle.std.proofs.lemmas.Option.{none-some}
use Rattle.lay_flow.specs.declared.blocks.flow_box.FlowBox.{FlowBox}
use Rattle.lay_flow.specs.Blocks.Boxes.{box_at, parent_at, parents_of}
use Rattle.lay_units.specs.declared.length.Unit.{Unit as Length}
use Rattle.lay_units.specs.Units.{IsUsed}
use Rattle.lay_margins.specs.StrutValue.{StrutValue}
use Rattle.lay_margins.specs.Collapse.{Holds}
use Rattle.lay_floats.specs.declared.placed.Placed.{Placed}
use Rattle.lay_floats.specs.declared.requests.Clear.{Clear}
use Rattle.lay_floats.specs.declared.requests.Clear.TheVariants.{None as clear_none}
use Rattle.lay_floats.specs.ClearEdge.{Clears, IsClearEdge}
use Rattle.lay_doc.specs.Tree.{IsTree}
use Rattle.lay_flow.specs.Blocks.Lengths.{length_at}
use Rattle.lay_flow.specs.Blocks.Children.{flag_at}
use Rattle.lay_flow.specs.Blocks.MarginRuns.{block_at, margins, has_top, run_at, run_before}
use Rattle.lay_flow.specs.Blocks.BlockLayout.{BlockLayout}
use Rattle.lay_flow.specs.Blocks.BlockPositions.{IsBlockLayout, is_lines, start_before}
use Rattle.lay_flow.specs.Blocks.BlockFloats.{Spot, shape_at, floats_before}
use Rattle.lay_flow.specs.Blocks.Clearance.{IsHypothetical, HasClearedFloat, IsAbove, lower_of, HasClearance}
use Rattle.lay_flow.specs.Pass.State.{PassState, IsAt, Settled, columns_of, Clearances, clearances_of, ended_run}
use Rattle.lay_flow.specs.Pass.Bounds.{IsEdgeNear}
use Rattle.lay_flow.specs.Pass.Struts.{StrutFits}
use Rattle.lay_flow.specs.Pass.Placed.{Placing, PlacesTo}
use Rattle.lay_flow.specs.Pass.Knows.{Knows, IsReady, MayBe, IsCandidate, AreExtentsKept, ArePlacesKept}
use Rattle.lay_flow.specs.Pass.Clears.{HasWaitingFloat, IsAboveFloats}
use Rattle.lay_flow.proofs.ClearedFloats.{edge_of_more, higher_with_more}
use Rattle.lay_flow.proofs.BlocksLemmas.HangingRuns.{hangs_at_edge}
use Rattle.lay_flow.proofs.BlocksLemmas.Hypotheticals.{some_hypothetical_lem}
use Rattle.lay_flow.proofs.Openings.{opened_cleared}
use Rattle.lay_flow.proofs.PassFits.{fits_cleared, start_edge_near}
use Rattle.lay_flow.proofs.PlacedOn.{IsMarkWithout}
use Rattle.lay_flow.proofs.PassSteps.{may_before, no_extents_kept, places_before, decided_placed}
use Rattle.lay_flow.proofs.BlocksLemmas.FloatLists.{floats_same}
use Rattle.lay_flow.proofs.BlocksLemmas.RunFacts.{lead_goes_on}
use Rattle.lay_flow.proofs.RunReach.{RunEnds}
use Rattle.lay_flow.proofs.SoFar.{Wrote}
use Rattle.lay_flow.proofs.BlocksLemmas.Truths.{true_false, true_or, low_not, low_yes}
use Rattle.lay_flow.specs.Blocks.FlowBoxes.{IsFlowTree, is_in_lines}
use Rattle.lay_flow.specs.Blocks.Weights.{weight}
use Rattle.lay_flow.proofs.BlocksLemmas.BlockKinds.{placed_none}
use Rattle.lay_flow.proofs.BlocksLemmas.FlowBoxFacts.{in_lines_unclear}
use Rattle.lay_flow.proofs.BlocksLemmas.PlacedInRuns.{placed_in_run}
use Rattle.lay_flow.specs.Blocks.MarginPlace.{margin_place}

module _ (boxes : List FlowBox) (tree : IsTree (parents_of boxes)) (are_tree : IsFlowTree boxes) (now : PassState) (placing : Placing) (k : ℕ) (positive : 0 < k) (within : k < length boxes)
    (was : Knows boxes now placing (margin_place (parent_at boxes k) k)) where
  -- the boxes before the run are placed
  pub knows_placed : (placing' : Placing) → PlacesTo boxes now.marks placing' now.first → AreExtentsKept boxes (length placing.places) placing.extents placing'.extents → ArePlacesKept placing.places placing'.places
      → Knows boxes now placing' (margin_place (parent_at boxes k) k)
  knows_placed placing' placed kept same =
      let l = placed.places_length in
      let early = was.early in
      let more : length placing.places ≤ length placing'.places = omega (arith, l, early) in
      record {
        fits = was.fits;
        near = was.near;
        is_at = λ y may_be candidate. was.is_at y (may_before boxes placing placing' y.extents more kept may_be) candidate;
        no_extents = no_extents_kept boxes placing.extents placing'.extents (length placing.places) kept was.no_extents;
        placed = subst (λ (n : ℕ). PlacesTo boxes now.marks placing' n) (sym l) placed;
        early = omega (arith, l);
        are_clears = was.are_clears;
        decided = decided_placed boxes (clearances_of now) placing placing' k more kept same was.decided;
      }

  -- a layout that may be at last is one before the box at k, too
  earlier : (y : BlockLayout) (more : Clearances) → ((j : ℕ) → j < k → flag_at more.flags j ≡ flag_at now.clears j) → ((j : ℕ) → j < k → length_at more.edges j ≡ length_at now.clear_edges j)
      → IsCandidate boxes y more (k + 1) → IsCandidate boxes y (clearances_of now) k
  earlier y more same_flags same_edges candidate = record {
    is_layout = candidate.is_layout;
    clears = λ j lt. candidate.clears j (omega (arith, lt)) ∙ same_flags j lt;
    edge = λ j lt t. candidate.edge j (omega (arith, lt)) (same_flags j lt ∙ t) ∙ same_edges j lt;
  }

  -- the hypothetical layout of the box at k
  module _ (y : BlockLayout) (may_be : MayBe boxes (length placing.places) placing.extents y.extents) (candidate : IsCandidate boxes y (clearances_of now) k) where
    module _ (without : BlockLayout) (is : IsHypothetical boxes y k without) where
      may_be_without : IsCandidate boxes without (clearances_of now) k
      may_be_without = record { is_layout = is.is_layout; clears = λ j lt. is.earlier j lt ∙ candidate.clears j lt; edge = λ j lt t. ap (λ (es : List Length). length_at es j) is.edges_are ∙ candidate.edge j lt t }

      depths_without : MayBe boxes (length placing.places) placing.extents without.extents
      depths_without = subst (MayBe boxes (length placing.places) placing.extents) (sym is.extents_are) may_be

      at_without : IsAt boxes without now (margin_place (parent_at boxes k) k)
      at_without = was.is_at without depths_without may_be_without

      lead_without : run_at without.runs.before_tops k ≡ run_before boxes without.runs (parent_at boxes k) k
      lead_without = lead_goes_on boxes without.runs is.is_layout.has_runs k positive within (is.later k (omega arith))

      -- the floats that it goes past and that are in its run are those that wait
      waits_cleared : HasClearedFloat boxes k (run_at without.runs.before_tops k) → HasWaitingFloat boxes now.first k
      waits_cleared w =
          let j : ℕ = w.0 in
          let top : has_top j (run_before boxes without.runs (parent_at boxes k) k) ≡ true = sym (ap (has_top j) lead_without) ∙ w.5 in
          let from : now.first ≤ j = elim (cases_lt j now.first) [
            | inl low ↦ absurd (true_false (has_top j (run_before boxes without.runs (parent_at boxes k) k)) top (at_without.in_run.gathered.older j low))
            | inr high ↦ high
          ] in
          (j, from, w.2, (w.1, w.3, w.4))

      cleared_waits : HasWaitingFloat boxes now.first k → HasClearedFloat boxes k (run_at without.runs.before_tops k)
      cleared_waits w =
          let j : ℕ = w.0 in
          let side = w.3 in
          (j, side.0, w.2, side.1, side.2, ap (has_top j) lead_without ∙ at_without.in_run.gathered.own j w.1 w.2)

  -- a run that hangs has the box at k at its clear edge
  pub hanging_edge : now.hangs ≡ true → IsMarkWithout boxes now placing k now.start
  hanging_edge t w may_be candidate later =
      let run = (was.is_at w may_be candidate).in_run in
      let h = run.hanging t in
      h.edge ∙ sym (hangs_at_edge boxes tree w candidate.is_layout now.first k within run.gathered h.clears (later k (omega arith)) h.open_yet h.contains)

  -- in another run the look ahead finds it
  pub flowing_edge : now.hangs ≡ false → (edge : ℤ)
      → ((w : BlockLayout) → IsBlockLayout boxes w → ((j : ℕ) → k ≤ j → flag_at w.runs.clears j ≡ false)
      → Holds now.strut (margins (run_before boxes w.runs (parent_at boxes k) k)) → now.start ≡ start_before boxes w (parent_at boxes k) k
      → ((j : ℕ) → j < k → has_top j (run_before boxes w.runs (parent_at boxes k) k) ≡ not (nat_lt j now.first))
      → edge ≡ length_at w.places.marks k)
      → IsMarkWithout boxes now placing k edge
  flowing_edge f edge ahead w may_be candidate later =
      let run = (was.is_at w may_be candidate).in_run in
      ahead w candidate.is_layout later run.strut_holds (run.start_is f) (λ j lt. elim (cases_lt j now.first) [
        | inl low ↦ run.gathered.older j low ∙ sym (low_yes j now.first low)
        | inr high ↦ run.gathered.own j high lt ∙ sym (low_not j now.first high)
      ])

  -- it is decided that the box at k has no clearance
  pub ready_unclear : ((shape_at boxes k).float ≡ None
      → (y : BlockLayout) (places : List Spot) → MayBe boxes (length placing.places) placing.extents y.extents → IsCandidate boxes y (clearances_of now) (k + 1) → ArePlacesKept placing.places places
      → HasClearance boxes y places k) → IsReady boxes now placing k
  ready_unclear here = record {
    fits = was.fits;
    near = start_edge_near (weight boxes k) now.start was.near;
    is_before = λ y may_be candidate.
        let at = was.is_at y may_be (earlier y (clearances_of now) (λ j lt. refl) (λ j lt. refl) candidate) in
        record { so_far = at.so_far; run = inl (candidate.clears k (omega arith) ∙ was.are_clears.later k (omega arith), at.in_run) };
    no_extents = was.no_extents;
    placed = was.placed;
    early = was.early;
    are_clears = record {
      clears_length = was.are_clears.clears_length;
      edges_length = was.are_clears.edges_length;
      later = λ j le. was.are_clears.later j (omega (arith, le));
      root = was.are_clears.root;
      float = was.are_clears.float;
      no_edge = was.are_clears.no_edge;
    };
    decided = λ j low lt none y places may_be candidate kept. elim (cases_lt j k) [
      | inl before ↦ was.decided j low before none y places may_be (earlier y (clearances_of now) (λ j lt. refl) (λ j lt. refl) candidate) kept
      | inr from ↦ (let e : j ≡ k = omega (arith, from, lt) in
          subst (λ (j : ℕ). HasClearance boxes y places j) (sym e) (here (ap (λ (j : ℕ). (shape_at boxes j).float) (sym e) ∙ none) y places may_be candidate kept))
    ];
  }

  unclear_here : (y : BlockLayout) → IsCandidate boxes y (clearances_of now) (k + 1) → flag_at y.runs.clears k ≡ false
  unclear_here y candidate = candidate.clears k (omega arith) ∙ was.are_clears.later k (omega arith)

  -- a box that goes past no floats
  pub ready_unasked : ((shape_at boxes k).float ≡ None → (shape_at boxes k).clear ≡ clear_none) → IsReady boxes now placing k
  ready_unasked passes_none = ready_unclear (λ none y places may_be candidate kept.
      let clear = passes_none none in
      let there = some_hypothetical_lem boxes y k tree are_tree.some candidate.is_layout in
      let unclear = unclear_here y candidate in
      record {
        without = there.0;
        is_hypothetical = there.1;
        bottom = None;
        is_bottom = subst (λ (c : Clear). IsClearEdge (floats_before boxes places k) c None) (sym clear) (λ i f at_i c. c);
        decides = (λ t. absurd (true_false (flag_at y.runs.clears k) t unclear), λ o. absurd (elim o [ inl w ↦ subst (λ (c : Clear). Clears c w.1) clear w.4 | inr above ↦ none-some above.0 above.1 ]));
        edge = λ t. absurd (true_false (flag_at y.runs.clears k) t unclear);
      })

  -- no box in the run holds lines
  bare : is_in_lines (box_at boxes k).kind ≡ false → (y : BlockLayout) → MayBe boxes (length placing.places) placing.extents y.extents → IsCandidate boxes y (clearances_of now) k
      → (j : ℕ) → now.first ≤ j → j < k → is_lines (block_at boxes j).inside ≡ false
  bare out y may_be candidate j from lt =
      let at = was.is_at y may_be candidate in
      (placed_none (block_at boxes j).inside (placed_in_run boxes are_tree y.runs candidate.is_layout.has_runs now.first k positive within out at.in_run.gathered j from lt)).0

  ready_beside : is_in_lines (box_at boxes k).kind ≡ false → (edge : ℤ) (bottom : Option Length) → length placing.places ≡ now.first → IsMarkWithout boxes now placing k edge → IsClearEdge placing.floats (shape_at boxes k).clear bottom
      → (HasWaitingFloat boxes now.first k → ⊥) → (IsAbove edge bottom → ⊥) → IsReady boxes now placing k
  ready_beside out edge bottom settled edge_is is_bottom none_waits below = ready_unclear (λ none y places may_be candidate kept.
      let before = earlier y (clearances_of now) (λ j lt. refl) (λ j lt. refl) candidate in
      let there = some_hypothetical_lem boxes y k tree are_tree.some candidate.is_layout in
      let unclear = unclear_here y candidate in
      let mark = edge_is there.0 (depths_without y may_be before there.0 there.1) (may_be_without y may_be before there.0 there.1) there.1.later in
      let floats : placing.floats ≡ floats_before boxes places now.first = was.placed.floats_are ∙ ap (floats_before boxes placing.places) settled
      ∙ sym (floats_same boxes places placing.places now.first (λ j lt. kept j (omega (arith, lt, settled)))) in
      record {
        without = there.0;
        is_hypothetical = there.1;
        bottom = bottom;
        is_bottom = edge_of_more boxes places (shape_at boxes k).clear bottom now.first k was.fits.first_most (bare out y may_be before) (λ j low high side float clears. none_waits (j, low, high, (side, float, clears)))
            (subst (λ (fs : List Placed). IsClearEdge fs (shape_at boxes k).clear bottom) floats is_bottom);
        decides = (
          λ t. absurd (true_false (flag_at y.runs.clears k) t unclear),
          λ o. absurd (elim o [
            | inl w ↦ none_waits (waits_cleared y may_be before there.0 there.1 w)
            | inr above ↦ below (subst (λ (v : ℤ). IsAbove v bottom) (sym mark) above)
          ]),
        );
        edge = λ t. absurd (true_false (flag_at y.runs.clears k) t unclear);
      })

  -- a box that stands below the floats that it goes past, none of which is in its run
  pub ready_below : (edge : ℤ) (bottom : Option Length) → length placing.places ≡ now.first → IsMarkWithout boxes now placing k edge → IsClearEdge placing.floats (shape_at boxes k).clear bottom
      → (HasWaitingFloat boxes now.first k → ⊥) → (IsAbove edge bottom → ⊥) → IsReady boxes now placing k
  ready_below edge bottom settled edge_is is_bottom none_waits below = true_or (is_in_lines (box_at boxes k).kind) (IsReady boxes now placing k)
      (λ in_lines. ready_unasked (λ none. in_lines_unclear boxes k in_lines))
      (λ out. ready_beside out edge bottom settled edge_is is_bottom none_waits below)

  -- its clearance begins a run
  module _ (hypothetical : ℤ) (flows : (shape_at boxes k).float ≡ None) (settled : length placing.places ≡ now.first) (edge_is : IsMarkWithout boxes now placing k hypothetical)
      (decides : HasWaitingFloat boxes now.first k ⊎ IsAboveFloats placing.floats (shape_at boxes k).clear hypothetical)
      (marks edges : List Length) (flags : List Bool) (placing' : Placing) (end edge : ℤ) (bottom' : Option Length) (strut' : StrutValue)
      (ends : RunEnds now end) (ended : IsUsed (end -ℤ now.start)) (settles : Settled boxes (ended_run (columns_of now) k end) now.marks marks)
      (placed : PlacesTo boxes marks placing' k) (kept : AreExtentsKept boxes (length placing.places) placing.extents placing'.extents) (same : ArePlacesKept placing.places placing'.places)
      (is_bottom' : IsClearEdge placing'.floats (shape_at boxes k).clear bottom') (lower : edge ≡ lower_of bottom' hypothetical) (near : IsEdgeNear (weight boxes k) edge)
      (wrote_flag : Wrote flag_at now.clears flags k true) (wrote_edge : Wrote length_at now.clear_edges edges k edge) (fits' : StrutFits strut') (empty : Holds strut' []) where
    more : length placing.places ≤ length placing'.places
    more = let l = placed.places_length in let f = was.fits.first_most in omega (arith, l, f, settled)

    same_flags : (j : ℕ) → j < k → flag_at flags j ≡ flag_at now.clears j
    same_flags j lt = wrote_flag.other j (λ e. omega (arith, e, lt))

    same_edges : (j : ℕ) → j < k → length_at edges j ≡ length_at now.clear_edges j
    same_edges j lt = wrote_edge.other j (λ e. omega (arith, e, lt))

    module _ (y : BlockLayout) (may_be' : MayBe boxes (length placing'.places) placing'.extents y.extents) (candidate : IsCandidate boxes y (record { flags = flags; edges = edges }) (k + 1)) where
      may_be : MayBe boxes (length placing.places) placing.extents y.extents
      may_be = may_before boxes placing placing' y.extents more kept may_be'

      before : IsCandidate boxes y (clearances_of now) k
      before = earlier y (record { flags = flags; edges = edges }) same_flags same_edges candidate

      clears_here : flag_at y.runs.clears k ≡ true
      clears_here = candidate.clears k (omega arith) ∙ wrote_flag.here

      edge_here : length_at y.clear_edges k ≡ edge
      edge_here = candidate.edge k (omega arith) wrote_flag.here ∙ wrote_edge.here

      -- what stands in lines goes past no floats
      undecided : is_in_lines (box_at boxes k).kind ≡ true → ⊥
      undecided in_lines = elim decides [
        | inl w ↦ subst (λ (c : Clear). Clears c w.3.0) (in_lines_unclear boxes k in_lines) w.3.2
        | inr above ↦ (let there = subst (IsClearEdge placing.floats (shape_at boxes k).clear) above.2.1 above.1 in
            let w = there.one_of in
            subst (λ (c : Clear). Clears c w.1.side) (in_lines_unclear boxes k in_lines) w.3.0)
      ]

      cleared_outside : is_in_lines (box_at boxes k).kind ≡ false → (places : List Spot) → ArePlacesKept placing'.places places → HasClearance boxes y places k
      cleared_outside out places are =
          let there = some_hypothetical_lem boxes y k tree are_tree.some candidate.is_layout in
          let mark = edge_is there.0 (depths_without y may_be before there.0 there.1) (may_be_without y may_be before there.0 there.1) there.1.later in
          let l = placed.places_length in
          let floats' : placing'.floats ≡ floats_before boxes places k = placed.floats_are ∙ sym (floats_same boxes places placing'.places k (λ j lt. are j (omega (arith, lt, l)))) in
          let f = was.fits.first_most in
          let floats : placing.floats ≡ floats_before boxes places now.first = was.placed.floats_are ∙ ap (floats_before boxes placing.places) settled
          ∙ sym (floats_same boxes places placing.places now.first (λ j lt. are j (omega (arith, lt, l, f)) ∙ same j (omega (arith, lt, settled)))) in
          let at_last = subst (λ (fs : List Placed). IsClearEdge fs (shape_at boxes k).clear bottom') floats' is_bottom' in
          let has : HasClearedFloat boxes k (run_at there.0.runs.before_tops k) ⊎ IsAbove (length_at there.0.places.marks k) bottom' = elim decides [
            | inl waits ↦ inl (cleared_waits y may_be before there.0 there.1 waits)
            | inr above ↦ inr (let at_first = subst (λ (fs : List Placed). IsClearEdge fs (shape_at boxes k).clear above.0) floats above.1 in
                subst (λ (v : ℤ). IsAbove v bottom') mark (higher_with_more boxes places (shape_at boxes k).clear above.0 bottom' now.first k f (bare out y may_be before) at_first at_last hypothetical above.2))
          ] in
          record {
            without = there.0;
            is_hypothetical = there.1;
            bottom = bottom';
            is_bottom = at_last;
            decides = (λ t. has, λ o. clears_here);
            edge = λ t. edge_here ∙ lower ∙ ap (lower_of bottom') mark;
          }

      cleared : (places : List Spot) → ArePlacesKept placing'.places places → HasClearance boxes y places k
      cleared places are = true_or (is_in_lines (box_at boxes k).kind) (HasClearance boxes y places k)
          (λ in_lines. absurd (undecided in_lines))
          (λ out. cleared_outside out places are)

    pub ready_cleared : IsReady boxes (record now { marks = marks; clears = flags; clear_edges = edges; start = edge; strut = strut'; first = k; hangs = true }) placing' k
    ready_cleared = record {
      fits = fits_cleared boxes tree now k marks edges flags end edge strut' positive was.fits settles ended near fits';
      near = near;
      is_before = λ y may_be' candidate.
          opened_cleared boxes y candidate.is_layout tree k positive within now end (clears_here y may_be' candidate) ends
          (was.is_at y (may_be y may_be' candidate) (before y may_be' candidate)) marks edges flags strut' edge empty settles (sym (edge_here y may_be' candidate));
      no_extents = no_extents_kept boxes placing.extents placing'.extents (length placing.places) kept was.no_extents;
      placed = let l = placed.places_length in subst (λ (n : ℕ). PlacesTo boxes marks placing' n) (sym l) placed;
      early = let l = placed.places_length in omega (arith, l);
      are_clears = record {
        clears_length = wrote_flag.length_is ∙ was.are_clears.clears_length;
        edges_length = wrote_edge.length_is ∙ was.are_clears.edges_length;
        later = λ j le. wrote_flag.other j (λ e. omega (arith, e, le)) ∙ was.are_clears.later j (omega (arith, le));
        root = wrote_flag.other 0 (λ e. omega (arith, e, positive)) ∙ was.are_clears.root;
        float = λ j side is. wrote_flag.other j (λ e. none-some side (sym (ap (λ (j : ℕ). (shape_at boxes j).float) e ∙ flows) ∙ is)) ∙ was.are_clears.float j side is;
        no_edge = λ j off. elim (cases_eq j k) [
          | inl e ↦ absurd (true_false (flag_at flags k) wrote_flag.here (sym (ap (flag_at flags) e) ∙ off))
          | inr ne ↦ wrote_edge.other j ne ∙ was.are_clears.no_edge j (sym (wrote_flag.other j ne) ∙ off)
        ];
      };
      decided = λ j low lt none y places may_be' candidate are. elim (cases_lt j k) [
        | inl earlier_one ↦ was.decided j low earlier_one none y places (may_be y may_be' candidate) (before y may_be' candidate) (places_before placing.places placing'.places places more same are)
        | inr from ↦ (let e : j ≡ k = omega (arith, from, lt) in
            subst (λ (j : ℕ). HasClearance boxes y places j) (sym e) (cleared y may_be' candidate places are))
      ];
    }
