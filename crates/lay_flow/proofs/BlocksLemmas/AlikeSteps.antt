-- Two layouts stay alike where a box is opened or closed.
use Rattle.std.proofs.Common.{◌≡◌, ◌⊎◌, ℕ, ◌+◌, ◌<◌, ◌≤◌, true, false, ℤ, ◌+ℤ◌, List, [], ◌∷◌, ◌++◌, length, refl, sym, ap, ◌∙◌, arith, inl, inr}
use Rattle.std.proofs.lemmas.Bool.{cases_lt}
use Rattle.lay_flow.specs.declared.blocks.flow_box.FlowBox.{FlowBox}
use Rattle.lay_flow.specs.Blocks.Boxes.{parent_at, parents_of}
use Rattle.lay_doc.specs.Tree.{IsTree}
use Rattle.lay_margins.specs.Collapse.{collapse}
use Rattle.lay_flow.specs.Blocks.Lengths.{length_at}
use Rattle.lay_flow.specs.Blocks.Children.{flag_at}
use Rattle.lay_flow.specs.Blocks.MarginRuns.{Entry, margin, mark, margins, block_at, run_at, parts_tops, to_top, run_before}
use Rattle.lay_flow.specs.Blocks.BlockLayout.{BlockLayout}
use Rattle.lay_flow.specs.Blocks.BlockPositions.{IsBlockLayout, start_before}
use Rattle.lay_flow.specs.Blocks.Gathered.{Gathered}
use Rattle.lay_flow.specs.Blocks.MarginPlace.{IsPlace, IsAround, margin_place}
use Rattle.lay_flow.proofs.BlocksLemmas.Truths.{true_false, true_or}
use Rattle.lay_flow.proofs.BlocksLemmas.RunFacts.{goes_in, ends_above, lead_goes_on, top_run_is, parting_stands}
use Rattle.lay_flow.proofs.BlocksLemmas.LayoutFacts.{mark_standing, start_flows}
use Rattle.lay_flow.proofs.BlocksLemmas.GatheredRuns.{next_here, childless, open_plain, open_cleared, open_parting}
use Rattle.lay_flow.proofs.BlocksLemmas.CollapsedThrough.{through_inside, start_inside}
use Rattle.lay_flow.proofs.BlocksLemmas.MarginWalk.{place_before}
use Rattle.lay_flow.proofs.BlocksLemmas.HangingRuns.{stands_at_edge}
use Rattle.lay_flow.proofs.BlocksLemmas.LayoutsAlike.{IsHanging, ClosedAlike, Alike, EndsIn, same_run, also_gathered, start_same, marks_same}

module _ (boxes : List FlowBox) (tree : IsTree (parents_of boxes)) (y : BlockLayout) (is : IsBlockLayout boxes y)
    (z : BlockLayout) (also : IsBlockLayout boxes z) where
  abbrev pub AlikeAt : ℕ → ℕ → ℕ → Type 0
  AlikeAt = Alike boxes tree y is z also

  abbrev pub IsClosed : ℕ → Type 0
  IsClosed = ClosedAlike boxes tree y is z also

  abbrev pub StartsAlike : ℕ → ℕ → ℕ → Type 0
  StartsAlike first p m = (start_before boxes y p m ≡ start_before boxes z p m) ⊎ IsHanging boxes y first (margin_place p m)

  abbrev pub MarksTo : ℕ → Type 0
  MarksTo m = (j : ℕ) → j < m → length_at y.places.marks j ≡ length_at z.places.marks j

  module _ (first k : ℕ) (positive : 0 < k) (within : k < length boxes) (was : AlikeAt first (parent_at boxes k) k) where
    pub at : IsPlace boxes (parent_at boxes k) k
    at = place_before boxes tree k positive within

    abbrev run_up : List Entry
    run_up = run_before boxes y.runs (parent_at boxes k) k

    run_is : run_before boxes y.runs (parent_at boxes k) k ≡ run_before boxes z.runs (parent_at boxes k) k
    run_is = same_run boxes tree y is z also first (parent_at boxes k) k at was

    gathered_z : Gathered boxes z.runs first (margin_place (parent_at boxes k) k)
    gathered_z = also_gathered boxes tree y is z also first (parent_at boxes k) k at was

    wider : (c : ℕ) → c ≤ parent_at boxes k → IsAround boxes c k → IsAround boxes c (k + 1)
    wider c above inside i low high = elim (cases_lt i k) [
      | inl before ↦ inside i low before
      | inr here ↦ (let e : i ≡ k = omega (arith, here, high) in rw e above)
    ]

    abbrev EndsBeforeTop : List Entry → ℕ → Type 0
    EndsBeforeTop = EndsIn boxes tree y is z also first (parent_at boxes k) k at was

    -- clearance of the box at k ends the run
    pub ended_by_clearance : flag_at y.runs.clears k ≡ true → flag_at z.runs.clears k ≡ true → (c : ℕ) → first ≤ c → c ≤ parent_at boxes k → IsAround boxes c k → EndsBeforeTop run_up c
    ended_by_clearance cleared also_cleared c from above inside =
        let lt = at.parent in
        let least = was.gathered.least in
        let there : 0 < c = omega (arith, least, from) in
        let e = run_is in
        record {
          rise = was.gathered.rise c from above inside ∙ ends_above boxes y.runs (parent_at boxes k) k k (next_here boxes tree y.runs is.has_runs k positive within) cleared;
          also_rise = gathered_z.rise c from above inside ∙ ends_above boxes z.runs (parent_at boxes k) k k (next_here boxes tree z.runs also.has_runs k positive within) also_cleared ∙ sym e;
          stands = true_or (flag_at y.runs.through c) (flag_at y.runs.through c ≡ false)
              (λ t. absurd (true_false (flag_at y.runs.clears k) cleared (through_inside boxes tree y.runs is.has_runs c k there (omega (arith, above, lt)) within (wider c above inside) t).unclear)) (λ f. f);
          also_stands = true_or (flag_at z.runs.through c) (flag_at z.runs.through c ≡ false)
              (λ t. absurd (true_false (flag_at z.runs.clears k) also_cleared (through_inside boxes tree z.runs also.has_runs c k there (omega (arith, above, lt)) within (wider c above inside) t).unclear)) (λ f. f);
        }

    pub marks_above_clearance : flag_at y.runs.clears k ≡ true → flag_at z.runs.clears k ≡ true → MarksTo k
    marks_above_clearance cleared also_cleared = marks_same boxes tree y is z also first (parent_at boxes k) k at was run_up (ended_by_clearance cleared also_cleared)

    module _ (clear_same : flag_at y.runs.clears k ≡ flag_at z.runs.clears k) (edge_same : flag_at y.runs.clears k ≡ true → length_at y.clear_edges k ≡ length_at z.clear_edges k) where
      opened : (next : ℕ) → Gathered boxes y.runs next (margin_place k (k + 1)) → MarksTo next → StartsAlike next k (k + 1) → AlikeAt next k (k + 1)
      opened next g marks start = record {
        gathered = g;
        clears = λ j lt. elim (cases_lt j k) [
          | inl low ↦ was.clears j low
          | inr ge ↦ (let e : j ≡ k = omega (arith, lt, ge) in ap (flag_at y.runs.clears) e ∙ clear_same ∙ ap (flag_at z.runs.clears) (sym e))
        ];
        edges = λ j lt c. elim (cases_lt j k) [
          | inl low ↦ was.edges j low c
          | inr ge ↦ (let e : j ≡ k = omega (arith, lt, ge) in ap (length_at y.clear_edges) e ∙ edge_same (ap (flag_at y.runs.clears) (sym e) ∙ c) ∙ ap (length_at z.clear_edges) (sym e))
        ];
        mark = marks;
        closed = λ j low high. absurd (omega (arith, low, high));
        gone = λ j i low high lower. elim (cases_lt i k) [
          | inl lt ↦ was.gone j i low lt lower
          | inr ge ↦ (let e : i ≡ k = omega (arith, high, ge) in was.closed j (rw e at lower) (omega (arith, low, e)))
        ];
        start = start;
      }

      opened_plain : parts_tops boxes k ≡ false → flag_at y.runs.clears k ≡ false → AlikeAt first k (k + 1)
      opened_plain plain unclear = opened first (open_plain boxes tree y.runs is.has_runs k positive within first was.gathered plain unclear) was.mark start
        where
          inside_y : start_before boxes y k (k + 1) ≡ start_before boxes y (parent_at boxes k) k
          inside_y = sym (start_inside boxes tree y is k positive within plain) ∙ start_flows boxes y is k positive within unclear

          inside_z : start_before boxes z k (k + 1) ≡ start_before boxes z (parent_at boxes k) k
          inside_z = sym (start_inside boxes tree z also k positive within plain) ∙ start_flows boxes z also k positive within (sym clear_same ∙ unclear)

          start : StartsAlike first k (k + 1)
          start = elim was.start [
            | inl e ↦ inl (inside_y ∙ e ∙ sym inside_z)
            | inr h ↦ inr (let u = h.above in let lt = at.parent in record { clears = h.clears; above = omega (arith, u, lt); contains = wider first u h.contains })
          ]

      opened_cleared : parts_tops boxes k ≡ false → flag_at y.runs.clears k ≡ true → AlikeAt k k (k + 1)
      opened_cleared plain cleared = opened k (open_cleared boxes tree y.runs is.has_runs k positive within plain cleared) (marks_above_clearance cleared (sym clear_same ∙ cleared))
          (inr (record { clears = cleared; above = omega arith; contains = λ i low high. absurd (omega (arith, low, high)) }))

      -- a border or a padding of the box ends the run below its top margin
      ended_by_edge : parts_tops boxes k ≡ true → flag_at y.runs.clears k ≡ false → (c : ℕ) → first ≤ c → c ≤ parent_at boxes k → IsAround boxes c k → EndsBeforeTop (to_top boxes y.runs k) c
      ended_by_edge parts unclear c from above inside =
          let lt = at.parent in
          let least = was.gathered.least in
          let there : 0 < c = omega (arith, least, from) in
          record {
            rise = was.gathered.rise c from above inside ∙ goes_in boxes y.runs (parent_at boxes k) k k (next_here boxes tree y.runs is.has_runs k positive within) unclear ∙ rise_y;
            also_rise = gathered_z.rise c from above inside ∙ goes_in boxes z.runs (parent_at boxes k) k k (next_here boxes tree z.runs also.has_runs k positive within) (sym clear_same ∙ unclear) ∙ rise_z ∙ sym tops_same;
            stands = true_or (flag_at y.runs.through c) (flag_at y.runs.through c ≡ false)
                (λ t. absurd (true_false (parts_tops boxes k) parts (through_inside boxes tree y.runs is.has_runs c k there (omega (arith, above, lt)) within (wider c above inside) t).unparted)) (λ f. f);
            also_stands = true_or (flag_at z.runs.through c) (flag_at z.runs.through c ≡ false)
                (λ t. absurd (true_false (parts_tops boxes k) parts (through_inside boxes tree z.runs also.has_runs c k there (omega (arith, above, lt)) within (wider c above inside) t).unparted)) (λ f. f);
          }
        where
          rise_y : run_at y.runs.top_runs k ≡ to_top boxes y.runs k
          rise_y = top_run_is boxes y.runs is.has_runs k positive within ∙ rw parts refl

          rise_z : run_at z.runs.top_runs k ≡ to_top boxes z.runs k
          rise_z = top_run_is boxes z.runs also.has_runs k positive within ∙ rw parts refl

          tops_same : to_top boxes y.runs k ≡ to_top boxes z.runs k
          tops_same = let e = lead_goes_on boxes y.runs is.has_runs k positive within unclear ∙ run_is ∙ sym (lead_goes_on boxes z.runs also.has_runs k positive within (sym clear_same ∙ unclear)) in rw e refl

      module _ (parts : parts_tops boxes k ≡ true) where
        start_y : start_before boxes y k (k + 1) ≡ length_at y.places.marks k +ℤ (block_at boxes k).edge_top.0
        start_y = let e = childless boxes tree y.runs is.has_runs k positive within in rw (e, parts) refl

        start_z : start_before boxes z k (k + 1) ≡ length_at z.places.marks k +ℤ (block_at boxes k).edge_top.0
        start_z = let e = childless boxes tree z.runs also.has_runs k positive within in rw (e, parts) refl

        opened_parting : MarksTo k → length_at y.places.marks k ≡ length_at z.places.marks k → AlikeAt (k + 1) k (k + 1)
        opened_parting marks here = opened (k + 1) (open_parting boxes tree y.runs is.has_runs k positive within parts) (λ j lt. elim (cases_lt j k) [
          | inl low ↦ marks j low
          | inr ge ↦ (let e : j ≡ k = omega (arith, lt, ge) in ap (length_at y.places.marks) e ∙ here ∙ ap (length_at z.places.marks) (sym e))
        ]) (inl (start_y ∙ ap (λ (v : ℤ). v +ℤ (block_at boxes k).edge_top.0) here ∙ sym start_z))

        parting_clear : flag_at y.runs.clears k ≡ true → AlikeAt (k + 1) k (k + 1)
        parting_clear cleared = opened_parting (marks_above_clearance cleared (sym clear_same ∙ cleared))
            (stands_at_edge boxes tree y is k positive within cleared ∙ edge_same cleared ∙ sym (stands_at_edge boxes tree z also k positive within (sym clear_same ∙ cleared)))

        parting_plain : flag_at y.runs.clears k ≡ false → AlikeAt (k + 1) k (k + 1)
        parting_plain unclear =
            let run : List Entry = to_top boxes y.runs k in
            let start = start_same boxes tree y is z also first (parent_at boxes k) k at was run (ended_by_edge parts unclear) in
            let also_unclear : flag_at z.runs.clears k ≡ false = sym clear_same ∙ unclear in
            let rise : run_at y.runs.top_runs k ≡ to_top boxes y.runs k = top_run_is boxes y.runs is.has_runs k positive within ∙ rw parts refl in
            let also_rise : run_at z.runs.top_runs k ≡ to_top boxes z.runs k = top_run_is boxes z.runs also.has_runs k positive within ∙ rw parts refl in
            let lead = lead_goes_on boxes y.runs is.has_runs k positive within unclear ∙ run_is ∙ sym (lead_goes_on boxes z.runs also.has_runs k positive within also_unclear) in
            let tops = rise ∙ ap (λ (xs : List Entry). xs ++ mark k ∷ margin (block_at boxes k).margin_top.0 ∷ []) lead ∙ sym also_rise in
            let starts = start_flows boxes y is k positive within unclear ∙ start ∙ sym (start_flows boxes z also k positive within also_unclear) in
            opened_parting (marks_same boxes tree y is z also first (parent_at boxes k) k at was run (ended_by_edge parts unclear))
            (mark_standing boxes y is k positive within (parting_stands boxes y.runs is.has_runs k positive within parts)
            ∙ (λ i. starts i +ℤ collapse (margins (tops i)))
            ∙ sym (mark_standing boxes z also k positive within (parting_stands boxes z.runs also.has_runs k positive within parts)))

      pub record SomeOpened : Type 0 where
        pub next : ℕ
        pub alike : AlikeAt next k (k + 1)

      pub opens_alike : SomeOpened
      opens_alike = true_or (parts_tops boxes k) SomeOpened
          (λ parts. true_or (flag_at y.runs.clears k) SomeOpened
          (λ cleared. record { next = k + 1; alike = parting_clear parts cleared })
          (λ unclear. record { next = k + 1; alike = parting_plain parts unclear }))
          (λ plain. true_or (flag_at y.runs.clears k) SomeOpened
          (λ cleared. record { next = k; alike = opened_cleared plain cleared })
          (λ unclear. record { next = first; alike = opened_plain plain unclear }))
