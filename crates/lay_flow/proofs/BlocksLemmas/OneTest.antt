-- The floats of the hypothetical assignment and those of the flow decide alike whether a box has clearance: a float to clear
-- has its mark in the run of the box, and then both do, or it stands by marks that both have.
use Rattle.std.proofs.Common.{◌≡◌, true, false, ◌↔◌, ℕ, zero, suc, ◌<◌, ◌≤◌, ℤ, ◌+ℤ◌, List, ◌++◌, length, refl, sym, ap, ◌∙◌, arith, inl, inr, Option, Some, None, subst}
use Rattle.std.proofs.lemmas.Bool.{cases_lt}
use Rattle.std.proofs.lemmas.Option.{none-some}
use Rattle.lay_units.specs.declared.length.Unit.{Unit as Length}
use Rattle.lay_doc.specs.Tree.{IsTree}
use Rattle.lay_floats.specs.declared.placed.Placed.{Placed}
use Rattle.lay_lines.specs.Lines.{LinesValue, AreLines}
use Rattle.lay_flow.specs.declared.blocks.block.Inside.{Inside}
use Rattle.lay_flow.specs.declared.blocks.block.Inside.TheVariants.{Blocks as blocks_inside, Lines as lines_inside, Solid as solid_inside}
use Rattle.lay_flow.specs.Blocks.BlockLayout.{BlockLayout, Extents}
use Rattle.lay_flow.specs.Blocks.BlockPositions.{is_lines, is_placed}
use Rattle.lay_flow.proofs.BlocksLemmas.BlockKinds.{lines_placed}
use Rattle.lay_flow.proofs.BlocksLemmas.OneLineList.{one_line_list}
use Rattle.lay_flow.proofs.BlocksLemmas.PlacedInRuns.{placed_in_run}
use Rattle.lay_floats.specs.declared.requests.Side.{Side}
use Rattle.lay_floats.specs.ClearEdge.{IsClearEdge}
use Rattle.lay_floats.specs.FloatPlace.{IsFloatPlace}
use Rattle.lay_flow.proofs.Cited.{one_float_place_lem}
use Rattle.lay_flow.specs.declared.blocks.flow_box.FlowBox.{FlowBox}
use Rattle.lay_flow.specs.Blocks.Boxes.{box_at, parent_at, parents_of}
use Rattle.lay_flow.specs.Blocks.Lengths.{length_at}
use Rattle.lay_flow.specs.Blocks.MarginRuns.{block_at, has_top, run_at, run_before}
use Rattle.lay_flow.specs.Blocks.BlockFloats.{Spot, ceiling, content_of, float_with_shape, float_request, floats_before, line_content_of, lines_at, place_at, shape_at}
use Rattle.lay_flow.specs.Blocks.Clearance.{AreFloatPlaces, IsHypothetical, NeedsClearance}
use Rattle.lay_flow.specs.Blocks.ContextFlow.{Flow, IsContextFlow}
use Rattle.lay_flow.specs.Blocks.FlowBoxes.{IsFlowTree, is_in_lines}
use Rattle.lay_flow.specs.Blocks.Laws.{OneTest}
use Rattle.lay_flow.proofs.BlocksLemmas.AlikeWalks.{AreAlike, SameClearances, SameDepths, alike_to}
use Rattle.lay_flow.proofs.BlocksLemmas.BoxTrees.{parent_before}
use Rattle.lay_flow.proofs.BlocksLemmas.FloatLists.{SameCleared, one_edge_to_clear}
use Rattle.lay_flow.proofs.BlocksLemmas.FlowBoxFacts.{root_flows}
use Rattle.lay_flow.proofs.BlocksLemmas.MarginWalk.{place_before}
use Rattle.lay_flow.proofs.BlocksLemmas.WaitingFloats.{NoneWaits, no_need, some_waits}
use Rattle.lay_flow.proofs.BlocksLemmas.PlacesAgree.{same_place}
use Rattle.lay_flow.proofs.BlocksLemmas.RunFacts.{lead_goes_on}
use Rattle.lay_flow.proofs.BlocksLemmas.RunsUpTo.{run_up_to}
use Rattle.lay_flow.proofs.BlocksLemmas.Truths.{true_false, true_or}

module _ (boxes : List FlowBox) (are : IsFlowTree boxes) (f : Flow) (is : IsContextFlow boxes f) (k : ℕ) (positive : 0 < k) (within : k < length boxes)
    (without : BlockLayout) (h : IsHypothetical boxes f.layout k without) where
  abbrev tree : IsTree (parents_of boxes)
  tree = are.tree

  depth : (j : ℕ) → length_at f.layout.extents.depths j ≡ length_at without.extents.depths j
  depth j = sym (ap (λ (e : Extents). length_at e.depths j) h.extents_are)

  same : SameClearances f.layout without k
  same = record { clears = λ j lt. sym (h.earlier j lt); edges = λ j lt c. sym (ap (λ (es : List Length). length_at es j) h.edges_are) }

  depths : SameDepths boxes f.layout without
  depths = record { placed = λ p inner placed marks. depth p; other = λ p inner flows. depth p }

  here : AreAlike boxes tree are.some f.layout is.by_clearances.layout without h.is_layout k same depths (parent_at boxes k) k
  here = alike_to boxes tree are.some f.layout is.by_clearances.layout without h.is_layout k same depths (parent_at boxes k) k (place_before boxes tree k positive within) (omega arith)

  -- the run before the box is that of the flow
  run_without : run_at without.runs.before_tops k ≡ run_before boxes f.layout.runs (parent_at boxes k) k
  run_without =
      lead_goes_on boxes without.runs h.is_layout.has_runs k positive within (h.later k (omega arith))
      ∙ run_up_to boxes tree without.runs f.layout.runs h.is_layout.has_runs is.by_clearances.layout.has_runs k h.earlier (parent_at boxes k) k (place_before boxes tree k positive within) (omega arith)

  module _ (places : List Spot) (by : AreFloatPlaces boxes without.places.marks places k) where
    -- floats have the same places, and lines are the same
    record SameFloats (n : ℕ) : Type 0 where
      pub float : (j : ℕ) (side : Side) → j < n → (shape_at boxes j).float ≡ Some side → place_at f.places j ≡ place_at places j
      pub lines : (j : ℕ) → j < n → is_lines (block_at boxes j).inside ≡ true → lines_at f.places j ≡ lines_at places j

    fewer : (n : ℕ) → SameFloats (suc n) → SameFloats n
    fewer n same = record { float = λ j side lt. same.float j side (omega (arith, lt)); lines = λ j lt. same.lines j (omega (arith, lt)) }

    floats_to : (n : ℕ) → SameFloats n → floats_before boxes f.places n ≡ floats_before boxes places n
    floats_to zero same = refl
    floats_to (suc n) same = by_inside (block_at boxes n).inside refl (go (shape_at boxes n).float refl (floats_to n (fewer n same)))
      where
        go : (o : Option Side) → (shape_at boxes n).float ≡ o → floats_before boxes f.places n ≡ floats_before boxes places n
            → floats_before boxes f.places n ++ float_with_shape (shape_at boxes n) (place_at f.places n) ≡ floats_before boxes places n ++ float_with_shape (shape_at boxes n) (place_at places n)
        go None e before = let both : float_with_shape (shape_at boxes n) (place_at f.places n) ≡ float_with_shape (shape_at boxes n) (place_at places n) = rw e refl in λ i. before i ++ both i
        go (Some side) e before = let p = same.float n side (omega arith) e in λ i. before i ++ float_with_shape (shape_at boxes n) (p i)

        by_inside : (inside : Inside) → (block_at boxes n).inside ≡ inside
            → floats_before boxes f.places n ++ float_with_shape (shape_at boxes n) (place_at f.places n) ≡ floats_before boxes places n ++ float_with_shape (shape_at boxes n) (place_at places n)
            → floats_before boxes f.places (suc n) ≡ floats_before boxes places (suc n)
        by_inside blocks_inside e plain = rw e plain
        by_inside lines_inside e plain = let here : is_lines (block_at boxes n).inside ≡ true = ap is_lines e in let l = same.lines n (omega arith) here in rw e (ap (λ (v : LinesValue). v.floats) l)
        by_inside solid_inside e plain = rw e plain

    not_root : (n : ℕ) (side : Side) → (shape_at boxes n).float ≡ Some side → 0 < n
    not_root n side e = elim (cases_lt 0 n) [
      | inl low ↦ low
      | inr ge ↦ (let zero_is : n ≡ 0 = omega (arith, ge) in absurd (none-some side (sym (root_flows boxes are) ∙ ap (λ (j : ℕ). (shape_at boxes j).float) (sym zero_is) ∙ e)))
    ]

    -- a float whose mark and whose containing block's mark both have stands alike, where those before it do
    same_float : (n : ℕ) → n < k → n < here.first → SameFloats n → (side : Side) → (shape_at boxes n).float ≡ Some side → place_at f.places n ≡ place_at places n
    same_float n lt few before side e =
        let low = not_root n side e in
        let inner : n < length boxes = omega (arith, lt, within) in
        let up = parent_before boxes tree n low inner in
        let mark = here.alike.mark n few in
        let over = here.alike.mark (parent_at boxes n) (omega (arith, up, few)) in
        let top : ceiling boxes f.layout.places.marks n ≡ ceiling boxes without.places.marks n = rw (mark, over) refl in
        let a = is.by_clearances.float n side low inner e in
        let c = subst (λ (fs : List Placed). IsFloatPlace fs (float_request (shape_at boxes n) side (ceiling boxes without.places.marks n)) (place_at places n).x.0 (place_at places n).y.0) (sym (floats_to n before)) (by.float n side low lt e) in
        let d = subst (λ (v : ℤ). IsFloatPlace (floats_before boxes f.places n) (float_request (shape_at boxes n) side v) (place_at places n).x.0 (place_at places n).y.0) (sym top) c in
        let both = one_float_place_lem (floats_before boxes f.places n) (float_request (shape_at boxes n) side (ceiling boxes f.layout.places.marks n)) _ _ _ _ a d in
        same_place (place_at f.places n) (place_at places n) both.0 both.1

    -- and so are the lines of a box whose mark both have
    same_lines : (n : ℕ) → n < k → n < here.first → SameFloats n → is_lines (block_at boxes n).inside ≡ true → lines_at f.places n ≡ lines_at places n
    same_lines n lt few before lines =
        let inner : n < length boxes = omega (arith, lt, within) in
        let kind = (box_at boxes n).kind in
        let mark = here.alike.mark n few in
        let c = subst (λ (v : ℤ). AreLines (line_content_of kind) (content_of kind).left (content_of kind).right (v +ℤ (block_at boxes n).edge_top.0) (floats_before boxes places n) (lines_at places n)) (sym mark) (by.lines n lt lines) in
        let d = subst (λ (fs : List Placed). AreLines (line_content_of kind) (content_of kind).left (content_of kind).right (length_at f.layout.places.marks n +ℤ (block_at boxes n).edge_top.0) fs (lines_at places n)) (sym (floats_to n before)) c in
        one_line_list (line_content_of kind) (content_of kind).left (content_of kind).right _ _ _ _ (is.by_clearances.lines n inner lines) d

    same_to : (n : ℕ) → n ≤ k → n ≤ here.first → SameFloats n
    same_to zero le few = record { float = λ j side lt e. absurd (omega (arith, lt)); lines = λ j lt e. absurd (omega (arith, lt)) }
    same_to (suc n) le few =
        let before : SameFloats n = same_to n (omega (arith, le)) (omega (arith, few)) in
        record {
          float = λ j side lt e. elim (cases_lt j n) [
            | inl low ↦ before.float j side low e
            | inr high ↦ (let same : j ≡ n = omega (arith, lt, high) in
                subst (λ (j : ℕ). place_at f.places j ≡ place_at places j) (sym same)
                (same_float n (omega (arith, le)) (omega (arith, few)) before side (ap (λ (j : ℕ). (shape_at boxes j).float) (sym same) ∙ e)))
          ];
          lines = λ j lt e. elim (cases_lt j n) [
            | inl low ↦ before.lines j low e
            | inr high ↦ (let same : j ≡ n = omega (arith, lt, high) in
                subst (λ (j : ℕ). lines_at f.places j ≡ lines_at places j) (sym same)
                (same_lines n (omega (arith, le)) (omega (arith, few)) before (ap (λ (j : ℕ). is_lines (block_at boxes j).inside) (sym same) ∙ e)))
          ];
        }

    -- a float to clear that isn't in the run stands alike
    same_cleared : is_in_lines (box_at boxes k).kind ≡ false → NoneWaits boxes (shape_at boxes k).clear (run_at without.runs.before_tops k) k → SameCleared boxes (shape_at boxes k).clear places f.places k
    same_cleared out free = record {
      float = λ j side lt e c. elim (cases_lt j here.first) [
        | inl low ↦ (let most = here.alike.gathered.most in sym ((same_to here.first most (omega arith)).float j side low e))
        | inr from ↦ absurd (true_false (has_top j (run_before boxes f.layout.runs (parent_at boxes k) k)) (here.alike.gathered.own j from lt) (ap (has_top j) (sym run_without) ∙ free j side lt e c))
      ];
      lines = λ j lt e. elim (cases_lt j here.first) [
        | inl low ↦ (let most = here.alike.gathered.most in sym ((same_to here.first most (omega arith)).lines j low e))
        | inr from ↦ absurd (true_false (is_placed (block_at boxes j).inside) (lines_placed (block_at boxes j).inside e)
            (placed_in_run boxes are f.layout.runs is.by_clearances.layout.has_runs here.first k positive within out here.alike.gathered j from lt))
      ];
    }

    test : (bottom other : Option Length) → IsClearEdge (floats_before boxes places k) (shape_at boxes k).clear bottom → IsClearEdge (floats_before boxes f.places k) (shape_at boxes k).clear other
        → NeedsClearance boxes without k bottom ↔ NeedsClearance boxes without k other
    test bottom other is_bottom is_other = true_or (is_in_lines (box_at boxes k).kind) (NeedsClearance boxes without k bottom ↔ NeedsClearance boxes without k other)
        (λ in_lines. (
          λ needs. absurd (no_need boxes k in_lines (floats_before boxes places k) without bottom is_bottom needs),
          λ needs. absurd (no_need boxes k in_lines (floats_before boxes f.places k) without other is_other needs),
        ))
        (λ out. elim (some_waits boxes k (run_at without.runs.before_tops k) k (omega arith)) [
          | inl w ↦ (λ needs. inl w, λ needs. inl w)
          | inr free ↦ (let e = one_edge_to_clear boxes (shape_at boxes k).clear places f.places k (same_cleared out free) bottom other is_bottom is_other in
              (λ needs. subst (NeedsClearance boxes without k) e needs, λ needs. subst (NeedsClearance boxes without k) (sym e) needs))
        ])

pub one_test_lem : OneTest
one_test_lem boxes f k without places bottom other are is positive within h by is_bottom is_other = test boxes are f is k positive within without h places by bottom other is_bottom is_other
