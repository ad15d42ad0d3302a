-- Two flows by clearances that are alike before a box decide alike whether it needs clearance.
use Rattle.std.proofs.Common.{◌≡◌, ◌↔◌, ℕ, ◌<◌, ◌≤◌, true, false, ℤ, List, length, sym, ap, ◌∙◌, arith, inl, inr, Option, subst}
use Rattle.std.proofs.lemmas.Bool.{cases_lt}
use Rattle.std.proofs.lemmas.List.{ext_get_or}
use Rattle.lay_flow.specs.declared.blocks.flow_box.FlowBox.{FlowBox}
use Rattle.lay_flow.specs.Blocks.Boxes.{box_at, parent_at, parents_of}
use Rattle.lay_units.specs.declared.length.Unit.{Unit as Length}
use Rattle.lay_doc.specs.Tree.{IsTree}
use Rattle.lay_floats.specs.declared.placed.Placed.{Placed}
use Rattle.lay_floats.specs.ClearEdge.{IsClearEdge}
use Rattle.lay_flow.specs.Blocks.Lengths.{length_at}
use Rattle.lay_flow.specs.Blocks.Children.{flag_at}
use Rattle.lay_flow.specs.Blocks.MarginRuns.{Runs, has_top, block_at, run_at, run_before}
use Rattle.lay_flow.specs.Blocks.BlockLayout.{BlockLayout, Extents}
use Rattle.lay_flow.specs.Blocks.BlockPositions.{HasPositions, is_placed}
use Rattle.lay_flow.specs.Blocks.BlockFloats.{Spot, spot_at, shape_at, floats_before}
use Rattle.lay_flow.specs.Blocks.Clearance.{HasClearedFloat, IsAbove, IsHypothetical, NeedsClearance}
use Rattle.lay_flow.specs.Blocks.ContextFlow.{Flow, IsFlowByClearances}
use Rattle.lay_flow.specs.Blocks.FlowBoxes.{IsFlowTree, is_in_lines}
use Rattle.lay_flow.proofs.Cited.{one_clear_edge_lem}
use Rattle.lay_flow.proofs.BlocksLemmas.PlacedInRuns.{placed_in_run}
use Rattle.lay_flow.proofs.BlocksLemmas.BlockKinds.{lines_placed}
use Rattle.lay_flow.proofs.BlocksLemmas.Truths.{true_false, true_or}
use Rattle.lay_flow.proofs.BlocksLemmas.BlockLayoutLaws.{one_runs}
use Rattle.lay_flow.proofs.BlocksLemmas.PositionsUpTo.{marks_up_to}
use Rattle.lay_flow.proofs.BlocksLemmas.RunsUpTo.{run_up_to}
use Rattle.lay_flow.proofs.BlocksLemmas.RunFacts.{lead_goes_on}
use Rattle.lay_flow.proofs.BlocksLemmas.MarginWalk.{place_before}
use Rattle.lay_flow.proofs.BlocksLemmas.AlikeSteps.{AlikeAt, marks_above_clearance}
use Rattle.lay_flow.proofs.BlocksLemmas.FloatLists.{SameCleared, floats_same, one_edge_to_clear}
use Rattle.lay_flow.proofs.BlocksLemmas.PlacesAgree.{places_to, extent_placed, extent_other}
use Rattle.lay_flow.proofs.BlocksLemmas.WaitingFloats.{NoneWaits, some_waits}

module _ (boxes : List FlowBox) (tree : IsTree (parents_of boxes)) (some : 0 < length boxes) (are : IsFlowTree boxes)
    (f g : Flow) (is : IsFlowByClearances boxes f) (also : IsFlowByClearances boxes g)
    (first k : ℕ) (positive : 0 < k) (within : k < length boxes)
    (was : AlikeAt boxes tree f.layout is.layout g.layout also.layout first (parent_at boxes k) k) where
  -- where both give the box clearance, the floats before it stand alike
  pub bottom_cleared : flag_at f.layout.runs.clears k ≡ true → flag_at g.layout.runs.clears k ≡ true → (bottom other : Option Length)
      → IsClearEdge (floats_before boxes f.places k) (shape_at boxes k).clear bottom → IsClearEdge (floats_before boxes g.places k) (shape_at boxes k).clear other → bottom ≡ other
  bottom_cleared cleared also_cleared bottom other is_bottom is_other =
      let marks = marks_above_clearance boxes tree f.layout is.layout g.layout also.layout first k positive within was cleared also_cleared in
      let floats = floats_same boxes f.places g.places k (places_to boxes tree are f g is also k (omega (arith, within)) marks) in
      one_clear_edge_lem (floats_before boxes f.places k) (shape_at boxes k).clear bottom other is_bottom
      (subst (λ (fs : List Placed). IsClearEdge fs (shape_at boxes k).clear other) (sym floats) is_other)

  -- what is placed before a box that doesn't stand in lines isn't in its run
  module _ (out : is_in_lines (box_at boxes k).kind ≡ false) where
    placed_before : (j : ℕ) → j < k → is_placed (block_at boxes j).inside ≡ true → j < first
    placed_before j lt placed = elim (cases_lt j first) [
      | inl less ↦ less
      | inr from ↦ absurd (true_false (is_placed (block_at boxes j).inside) placed (placed_in_run boxes are f.layout.runs is.layout.has_runs first k positive within out was.gathered j from lt))
    ]

    extents_before : (j : ℕ) → 0 < j → j < k → length_at f.layout.extents.depths j ≡ length_at g.layout.extents.depths j
    extents_before j low lt = true_or (is_placed (block_at boxes j).inside) (length_at f.layout.extents.depths j ≡ length_at g.layout.extents.depths j)
        (λ placed. let less = placed_before j lt placed in extent_placed boxes tree are f g is also j (omega (arith, lt, within)) placed (λ i a. was.mark i (omega (arith, a, less))))
        (λ flows. extent_other boxes tree are f g is also j (omega (arith, lt, within)) flows)

    module _ (without other : BlockLayout) (h : IsHypothetical boxes f.layout k without) (t : IsHypothetical boxes g.layout k other) where
      -- the hypothetical layouts have the same runs
      runs_without : without.runs ≡ other.runs
      runs_without =
          one_runs boxes without.runs other.runs tree some
          (ext_get_or false without.runs.clears other.runs.clears (h.is_layout.has_runs.clears_length ∙ sym t.is_layout.has_runs.clears_length) (λ j lt. elim (cases_lt j k) [
            | inl low ↦ h.earlier j low ∙ was.clears j low ∙ sym (t.earlier j low)
            | inr high ↦ h.later j high ∙ sym (t.later j high)
          ])) h.is_layout.has_runs t.is_layout.has_runs

      lead_without : run_at without.runs.before_tops k ≡ run_at other.runs.before_tops k
      lead_without = ap (λ (r : Runs). run_at r.before_tops k) runs_without

      pub mark_without : length_at without.places.marks k ≡ length_at other.places.marks k
      mark_without =
          let positions : HasPositions boxes (record other { runs = without.runs }) = subst (λ (r : Runs). HasPositions boxes (record other { runs = r })) (sym runs_without) t.is_layout.has_positions in
          let depths : (j : ℕ) → 0 < j → j < k → length_at without.extents.depths j ≡ length_at other.extents.depths j = λ j low lt.
          ap (λ (e : Extents). length_at e.depths j) h.extents_are ∙ extents_before j low lt ∙ sym (ap (λ (e : Extents). length_at e.depths j) t.extents_are) in
          let edges : (j : ℕ) → j ≤ k → flag_at without.runs.clears j ≡ true → length_at without.clear_edges j ≡ length_at other.clear_edges j = λ j le cleared. elim (cases_lt j k) [
            | inl low ↦ ap (λ (es : List Length). length_at es j) h.edges_are ∙ was.edges j low (sym (h.earlier j low) ∙ cleared) ∙ sym (ap (λ (es : List Length). length_at es j) t.edges_are)
            | inr high ↦ absurd (true_false (flag_at without.runs.clears j) cleared (h.later j high))
          ] in
          marks_up_to boxes tree without other h.is_layout.has_positions positions k depths edges some within k (omega arith)

      -- the run before the box is that of the flow
      run_without : run_at without.runs.before_tops k ≡ run_before boxes f.layout.runs (parent_at boxes k) k
      run_without =
          lead_goes_on boxes without.runs h.is_layout.has_runs k positive within (h.later k (omega arith))
          ∙ run_up_to boxes tree without.runs f.layout.runs h.is_layout.has_runs is.layout.has_runs k h.earlier (parent_at boxes k) k (place_before boxes tree k positive within) (omega arith)

      none_high : NoneWaits boxes (shape_at boxes k).clear (run_at without.runs.before_tops k) k → SameCleared boxes (shape_at boxes k).clear f.places g.places k
      none_high free = record {
        float = λ j side lt e c. elim (cases_lt j first) [
          | inl low ↦ ap (λ (q : Spot). q.place) (stands_before j low)
          | inr from ↦ absurd (true_false (has_top j (run_before boxes f.layout.runs (parent_at boxes k) k)) (was.gathered.own j from lt) (ap (has_top j) (sym run_without) ∙ free j side lt e c))
        ];
        lines = λ j lt lines. ap (λ (q : Spot). q.lines) (stands_before j (placed_before j lt (lines_placed (block_at boxes j).inside lines)));
      }
        where
          stands_before : (j : ℕ) → j < first → spot_at f.places j ≡ spot_at g.places j
          stands_before j low = let most = was.gathered.most in places_to boxes tree are f g is also first (omega (arith, most, within)) was.mark j low

      module _ (bottom low : Option Length) (is_bottom : IsClearEdge (floats_before boxes f.places k) (shape_at boxes k).clear bottom)
          (is_low : IsClearEdge (floats_before boxes g.places k) (shape_at boxes k).clear low) where
        over : bottom ≡ low → NeedsClearance boxes without k bottom → NeedsClearance boxes other k low
        over same (inl w) = inl (subst (HasClearedFloat boxes k) lead_without w)
        over same (inr a) = inr (subst (λ (o : Option Length). IsAbove (length_at other.places.marks k) o) same (subst (λ (v : ℤ). IsAbove v bottom) mark_without a))

        back : bottom ≡ low → NeedsClearance boxes other k low → NeedsClearance boxes without k bottom
        back same (inl w) = inl (subst (HasClearedFloat boxes k) (sym lead_without) w)
        back same (inr a) = inr (subst (λ (o : Option Length). IsAbove (length_at without.places.marks k) o) (sym same) (subst (λ (v : ℤ). IsAbove v low) (sym mark_without) a))

        pub needs_alike : NeedsClearance boxes without k bottom ↔ NeedsClearance boxes other k low
        needs_alike = elim (some_waits boxes k (run_at without.runs.before_tops k) k (omega arith)) [
          | inl w ↦ (λ needs. inl (subst (HasClearedFloat boxes k) lead_without w), λ needs. inl w)
          | inr free ↦ (let same = one_edge_to_clear boxes (shape_at boxes k).clear f.places g.places k (none_high free) bottom low is_bottom is_low in (over same, back same))
        ]
