-- What stands in a run that was begun by clearance of an open box stands at the clear edge of that box.
use Rattle.std.proofs.Common.{◌≡◌, ℕ, zero, suc, ◌+◌, ◌<◌, ◌≤◌, true, false, ℤ, ◌+ℤ◌, ◌-ℤ◌, List, length, sym, ap, ◌∙◌, arith, inl, inr, subst}
use Rattle.std.proofs.lemmas.Bool.{cases_lt, cases_eq}
use Rattle.std.proofs.lemmas.Int.{ints}
use Rattle.lay_flow.specs.declared.blocks.flow_box.FlowBox.{FlowBox}
use Rattle.lay_flow.specs.Blocks.Boxes.{parent_at, parents_of}
use Rattle.lay_flow.proofs.BlocksLemmas.BoxTrees.{parent_before, parents_together}
use Rattle.lay_doc.specs.Tree.{IsTree}
use Rattle.lay_margins.specs.Collapse.{collapse}
use Rattle.lay_flow.specs.Blocks.Lengths.{length_at}
use Rattle.lay_flow.specs.Blocks.Children.{flag_at}
use Rattle.lay_flow.specs.Blocks.MarginRuns.{margins, has_top, run_at, run_before}
use Rattle.lay_flow.specs.Blocks.BlockLayout.{BlockLayout}
use Rattle.lay_flow.specs.Blocks.BlockPositions.{IsBlockLayout, start_before}
use Rattle.lay_flow.specs.Blocks.Gathered.{Gathered}
use Rattle.lay_flow.proofs.BlocksLemmas.Truths.{true_false, true_or, low_not}
use Rattle.lay_flow.proofs.BlocksLemmas.RunFacts.{goes_in, lead_goes_on, lead_begins}
use Rattle.lay_flow.proofs.BlocksLemmas.LayoutFacts.{mark_standing, mark_inherits, mark_through, start_flows, start_clears, start_clears_through}
use Rattle.lay_flow.proofs.BlocksLemmas.GatheredRuns.{next_here}
use Rattle.lay_flow.proofs.BlocksLemmas.CollapsedThrough.{through_inside, one_start}
use Rattle.lay_flow.proofs.BlocksLemmas.MarginWalk.{place_before}
use Rattle.lay_flow.specs.Blocks.MarginPlace.{IsAround, margin_place}

module _ (boxes : List FlowBox) (tree : IsTree (parents_of boxes)) (w : BlockLayout) (is : IsBlockLayout boxes w) where
  -- a box with clearance stands at its clear edge
  pub stands_at_edge : (d : ℕ) → 0 < d → d < length boxes → flag_at w.runs.clears d ≡ true → length_at w.places.marks d ≡ length_at w.clear_edges d
  stands_at_edge d positive within cleared = true_or (flag_at w.runs.through d) (length_at w.places.marks d ≡ length_at w.clear_edges d)
      (λ t. mark_through boxes w is d positive within t (own_lead t)
      ∙ from_edge (length_at w.places.starts d) (length_at w.clear_edges d) (collapse (margins (run_before boxes w.runs d (length boxes)))) (start_clears_through boxes w is d positive within cleared t))
      (λ f. mark_standing boxes w is d positive within f
      ∙ from_edge (length_at w.places.starts d) (length_at w.clear_edges d) (collapse (margins (run_at w.runs.top_runs d))) (start_clears boxes w is d positive within cleared f))
    where
      from_edge : (start edge sum : ℤ) → start ≡ edge -ℤ sum → start +ℤ sum ≡ edge
      from_edge start edge sum e = omega (arith, ints, e)

      own_lead : flag_at w.runs.through d ≡ true → has_top (parent_at boxes d) (run_at w.runs.before_tops d) ≡ false
      own_lead t = let lead = lead_begins boxes w.runs is.has_runs d positive within cleared in ap (has_top (parent_at boxes d)) lead

  module _ (first k : ℕ) (within : k < length boxes) (g : Gathered boxes w.runs first (margin_place (parent_at boxes k) k)) (cleared : flag_at w.runs.clears first ≡ true) (unclear : flag_at w.runs.clears k ≡ false)
      (above : first ≤ parent_at boxes k) (contains : IsAround boxes first k) where
    positive : 0 < first
    positive = g.least

    less : first < k
    less = let p = g.parent in omega (arith, above, p)

    edge : ℤ
    edge = length_at w.clear_edges first

    -- the boxes in the run are inside the one at `first`
    parent_inside : (c : ℕ) → first < c → c ≤ k → first ≤ parent_at boxes c
    parent_inside c lt le = elim (cases_lt c k) [
      | inl low ↦ contains c lt low
      | inr ge ↦ (let e : c ≡ k = omega (arith, le, ge) in rw e above)
    ]

    lead_there : (c : ℕ) → first < c → c ≤ k → has_top (parent_at boxes c) (run_at w.runs.before_tops c) ≡ true
    lead_there c lt le = elim (cases_lt c k) [
      | inl low ↦ (let b = parent_before boxes tree c (omega (arith, lt)) (omega (arith, low, within)) in let i = parent_inside c lt le in
          g.leads (parent_at boxes c) c (omega (arith, lt)) low b ∙ low_not (parent_at boxes c) first i)
      | inr ge ↦ (let e : k ≡ c = omega (arith, le, ge) in let l = less in
          subst (λ (c : ℕ). has_top (parent_at boxes c) (run_at w.runs.before_tops c) ≡ true) e
          (ap (has_top (parent_at boxes k)) (lead_goes_on boxes w.runs is.has_runs k (omega (arith, l)) within unclear) ∙ g.own (parent_at boxes k) above g.parent))
    ]

    -- an open one of them, or the next
    record Stands (c : ℕ) : Type 0 where
      pub start : length_at w.places.starts c ≡ length_at w.places.starts first
      pub rise : run_at w.runs.top_runs c ≡ run_at w.runs.top_runs first

    start_of_first : (j : ℕ) → first ≤ j → j < k → length_at w.places.starts j ≡ start_before boxes w (parent_at boxes k) k
    start_of_first j from lt = let l = less in
        one_start boxes tree w is first (parent_at boxes k) k (place_before boxes tree k (omega (arith, l)) within) g first j (omega arith) above contains from lt

    as_first : (c : ℕ) → first ≤ c → c ≤ k → IsAround boxes c (k + 1) → Stands c
    as_first c from le inside = elim (cases_lt c k) [
      | inl lt ↦ record {
        start = start_of_first c from lt ∙ sym (start_of_first first (omega arith) less);
        rise = g.rise c from (inside k lt (omega arith)) (λ i a b. inside i a (omega (arith, b))) ∙ sym (g.rise first (omega arith) above contains);
      }
      | inr ge ↦ (let e : k ≡ c = omega (arith, le, ge) in let l = less in subst Stands e (record {
        start = start_flows boxes w is k (omega (arith, l)) within unclear ∙ sym (start_of_first first (omega arith) less);
        rise = sym (goes_in boxes w.runs (parent_at boxes k) k k (next_here boxes tree w.runs is.has_runs k (omega (arith, l)) within) unclear) ∙ sym (g.rise first (omega arith) above contains);
      }))
    ]

    stands_at : (fuel c : ℕ) → c < fuel → first ≤ c → c ≤ k → IsAround boxes c (k + 1) → length_at w.places.marks c ≡ length_at w.clear_edges first
    stands_at zero c small from le inside = absurd (omega (arith, small))
    stands_at (suc fuel) c small from le inside = elim (cases_eq c first) [
      | inl e ↦ (let p = positive in let l = less in ap (length_at w.places.marks) e ∙ stands_at_edge first p (omega (arith, l, within)) cleared)
      | inr ne ↦ (let p = positive in let l = less in
          let lt : first < c = omega (arith, from, ne) in
          let here : c < length boxes = omega (arith, le, within) in
          let b = parent_before boxes tree c (omega (arith, lt)) here in
          true_or (flag_at w.runs.through c) (length_at w.places.marks c ≡ length_at w.clear_edges first)
          (λ t. mark_inherits boxes w is c (omega (arith, lt)) here t (lead_there c lt le)
          ∙ stands_at fuel (parent_at boxes c) (omega (arith, b, small)) (parent_inside c lt le) (omega (arith, b, le)) (λ i a z. elim (cases_lt i c) [
            | inl before ↦ parents_together boxes tree i c before here a
            | inr after ↦ elim (cases_eq i c) [
              | inl e ↦ rw e (omega arith)
              | inr other ↦ (let x = inside i (omega (arith, after, other)) z in omega (arith, x, b))
            ]
          ]))
          (λ f. let same = as_first c from le inside in
          let first_stands : flag_at w.runs.through first ≡ false = true_or (flag_at w.runs.through first) (flag_at w.runs.through first ≡ false)
          (λ t. absurd (true_false (flag_at w.runs.through c) (through_inside boxes tree w.runs is.has_runs first c p lt here (λ i a z. parent_inside i a (omega (arith, z, le))) t).through f)) (λ f. f) in
          mark_standing boxes w is c (omega (arith, lt)) here f
          ∙ (λ i. same.start i +ℤ collapse (margins (same.rise i)))
          ∙ sym (mark_standing boxes w is first p (omega (arith, l, within)) first_stands)
          ∙ stands_at_edge first p (omega (arith, l, within)) cleared))
    ]

    -- the box at k stands there
    pub hangs_at_edge : length_at w.places.marks k ≡ length_at w.clear_edges first
    hangs_at_edge = let l = less in stands_at (k + 1) k (omega arith) (omega (arith, l)) (omega arith) (λ i a b. absurd (omega (arith, a, b)))
