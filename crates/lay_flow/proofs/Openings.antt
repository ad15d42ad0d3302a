-- A box is opened.
use Rattle.std.proofs.Common.{◌≡◌, ℕ, ◌+◌, ◌<◌, ◌≤◌, not, nat_lt, Bool, true, false, ℤ, ◌+ℤ◌, ◌-ℤ◌, List, [], ◌∷◌, ◌++◌, length, refl, sym, ap, ◌∙◌, arith, inl, inr, subst}
use Rattle.std.proofs.lemmas.Bool.{cases_lt}
use Rattle.std.proofs.lemmas.Int.{ints}
use Rattle.lay_flow.specs.declared.blocks.flow_box.FlowBox.{FlowBox}
use Rattle.lay_flow.specs.Blocks.Boxes.{parent_at, parents_of}
use Rattle.lay_flow.proofs.BlocksLemmas.BoxTrees.{parent_before}
use Rattle.lay_units.specs.declared.length.Unit.{Unit as Length}
use Rattle.lay_margins.specs.StrutValue.{StrutValue}
use Rattle.lay_margins.specs.Collapse.{Holds, collapse}
use Rattle.lay_doc.specs.Tree.{IsTree}
use Rattle.lay_flow.specs.Blocks.Lengths.{length_at}
use Rattle.lay_flow.specs.Blocks.Children.{flag_at}
use Rattle.lay_flow.specs.Blocks.MarginRuns.{Entry, margin, mark, margins, has_top, block_at, run_at, parts_tops, to_top, run_before, run_across}
use Rattle.lay_flow.specs.Blocks.Gathered.{Gathered}
use Rattle.lay_flow.specs.Blocks.BlockLayout.{BlockLayout}
use Rattle.lay_flow.specs.Blocks.BlockPositions.{IsBlockLayout, start_before}
use Rattle.lay_flow.specs.Pass.State.{Settled, PassState, IsInRun, IsAt, BeginsRun, IsBefore, columns_of, ended_run}
use Rattle.lay_flow.proofs.BlocksLemmas.CollapsedThrough.{through_inside}
use Rattle.lay_flow.proofs.BlocksLemmas.GatheredRuns.{childless, next_here, open_plain, open_cleared, open_parting}
use Rattle.lay_flow.proofs.BlocksLemmas.LayoutFacts.{start_first, start_flows, start_clears, mark_standing}
use Rattle.lay_flow.specs.Blocks.MarginPlace.{IsPlace, IsAround, margin_place}
use Rattle.lay_flow.proofs.BlocksLemmas.RunEntries.{margins-append}
use Rattle.lay_flow.proofs.BlocksLemmas.RunFacts.{first_comes, goes_in, ends_above, lead_goes_on, lead_begins, top_run_is, parting_stands}
use Rattle.lay_flow.proofs.RunReach.{RunEnds, mark_here, waiting_open, tops_here, reach_is}
use Rattle.lay_flow.proofs.SoFar.{so_far_opened, so_far_settled}
use Rattle.lay_flow.proofs.BlocksLemmas.Truths.{true_false, true_or, low_not, low_yes}

abbrev pub pushed : PassState → StrutValue → PassState
pushed now strut = record now { strut = strut }

-- the strut with the top margin of a box
abbrev pub WithMargin : StrutValue → StrutValue → ℤ → Type 0
WithMargin old new v = (ms : List ℤ) → Holds old ms → Holds new (ms ++ v ∷ [])

-- the place before the top margin of a box
pub place_above : (boxes : List FlowBox) (y : BlockLayout) (now : PassState) (k : ℕ) → IsInRun boxes y now (margin_place (parent_at boxes k) k) → IsPlace boxes (parent_at boxes k) k
place_above boxes y now k run = record { parent = run.gathered.parent; within = run.gathered.within; inside = run.gathered.inside; next = λ w. omega arith }

module _ (boxes : List FlowBox) (y : BlockLayout) (is : IsBlockLayout boxes y) (tree : IsTree (parents_of boxes))
    (k : ℕ) (positive : 0 < k) (within : k < length boxes) where
  abbrev c : List Entry
  c = run_before boxes y.runs (parent_at boxes k) k

  up : parent_at boxes k < k
  up = parent_before boxes tree k positive within

  abbrev top : ℤ
  top = (block_at boxes k).margin_top.0

  to_top_here : parts_tops boxes k ≡ false → run_before boxes y.runs k (k + 1) ≡ to_top boxes y.runs k
  to_top_here plain = first_comes boxes y.runs k (k + 1) (childless boxes tree y.runs is.has_runs k positive within) ∙ rw plain refl

  start_here : parts_tops boxes k ≡ false → start_before boxes y k (k + 1) ≡ length_at y.places.starts k
  start_here plain = start_first boxes y k (k + 1) (childless boxes tree y.runs is.has_runs k positive within) ∙ rw plain refl

  top_margins : flag_at y.runs.clears k ≡ false → margins (to_top boxes y.runs k) ≡ margins c ++ top ∷ []
  top_margins unclear = ap (λ (xs : List Entry). margins (xs ++ mark k ∷ margin top ∷ [])) (lead_goes_on boxes y.runs is.has_runs k positive within unclear) ∙ margins-append c (mark k ∷ margin top ∷ [])

  contains_more : (first : ℕ) → first ≤ parent_at boxes k → IsAround boxes first k → IsAround boxes first (k + 1)
  contains_more first le holds i low high = elim (cases_lt i k) [
    | inl before ↦ holds i low before
    | inr here ↦ (let e : i ≡ k = omega (arith, here, high) in rw e le)
  ]

  pub opened : (now : PassState) (strut : StrutValue) → parts_tops boxes k ≡ false → WithMargin now.strut strut top → IsBefore boxes y now k → IsAt boxes y (pushed now strut) (margin_place k (k + 1))
  opened now strut plain holds was = record { so_far = so_far_opened boxes tree y (columns_of now) k positive within was.so_far; in_run = elim was.run [ inl both ↦ goes_on both.0 both.1 | inr begins ↦ hangs begins ] }
    where
      goes_on : flag_at y.runs.clears k ≡ false → IsInRun boxes y now (margin_place (parent_at boxes k) k) → IsInRun boxes y (pushed now strut) (margin_place k (k + 1))
      goes_on unclear run = record {
        gathered = open_plain boxes tree y.runs is.has_runs k positive within now.first run.gathered plain unclear;
        strut_holds = let e = ap margins (to_top_here plain) ∙ top_margins unclear in rw e (holds (margins c) run.strut_holds);
        start_is = λ f. run.start_is f ∙ sym (start_flows boxes y is k positive within unclear) ∙ sym (start_here plain);
        hanging = λ t. let h = run.hanging t in let le = h.open_yet in let u = up in record { clears = h.clears; edge = h.edge; open_yet = omega (arith, le, u); contains = contains_more now.first le h.contains };
      }

      hangs : BeginsRun y now k → IsInRun boxes y (pushed now strut) (margin_place k (k + 1))
      hangs begins =
          let same = begins.first_is in
          let lead = lead_begins boxes y.runs is.has_runs k positive within begins.clears in
          let one : margins (run_before boxes y.runs k (k + 1)) ≡ top ∷ [] = ap margins (to_top_here plain) ∙ ap (λ (xs : List Entry). margins (xs ++ mark k ∷ margin top ∷ [])) lead in
          record {
            gathered = subst (λ (f : ℕ). Gathered boxes y.runs f (margin_place k (k + 1))) (sym same) (open_cleared boxes tree y.runs is.has_runs k positive within plain begins.clears);
            strut_holds = rw one (holds [] begins.strut_holds);
            start_is = λ f. absurd (true_false now.hangs begins.hangs f);
            hanging = λ t. record {
              clears = ap (flag_at y.runs.clears) same ∙ begins.clears;
              edge = begins.edge ∙ sym (ap (length_at y.clear_edges) same);
              open_yet = omega (arith, same);
              contains = λ i low high. absurd (omega (arith, same, low, high));
            };
          }

  -- where the run ends, before an edge of the box
  module _ (now : PassState) (strut : StrutValue) (end : ℤ) (wall : parts_tops boxes k ≡ true) (holds : WithMargin now.strut strut top) (ends : RunEnds (pushed now strut) end) (was : IsBefore boxes y now k) where
    stands : flag_at y.runs.through k ≡ false
    stands = parting_stands boxes y.runs is.has_runs k positive within wall

    rise_here : run_at y.runs.top_runs k ≡ to_top boxes y.runs k
    rise_here = top_run_is boxes y.runs is.has_runs k positive within ∙ rw wall refl

    pub ends_wall : (j : ℕ) → now.first ≤ j → j < k + 1 → flag_at now.through j ≡ false → flag_at y.runs.through j ≡ false → length_at y.places.marks j ≡ end
    ends_wall j a b code truth = elim was.run [ inl both ↦ goes_on both.0 both.1 | inr begins ↦ hangs begins ]
      where
        hangs : BeginsRun y now k → length_at y.places.marks j ≡ end
        hangs begins =
            let f = begins.first_is in
            let same : j ≡ k = omega (arith, a, b, f) in
            ap (length_at y.places.marks) same ∙ mark_standing boxes y is k positive within stands
            ∙ minus_plus (length_at y.places.starts k) (length_at y.clear_edges k) (collapse (margins (run_at y.runs.top_runs k))) (start_clears boxes y is k positive within begins.clears stands)
            ∙ sym begins.edge ∙ sym (ends.hanging begins.hangs)
          where
            minus_plus : (s e c : ℤ) → s ≡ e -ℤ c → s +ℤ c ≡ e
            minus_plus s e c h = omega (arith, ints, h)

        goes_on : flag_at y.runs.clears k ≡ false → IsInRun boxes y now (margin_place (parent_at boxes k) k) → length_at y.places.marks j ≡ end
        goes_on unclear run =
            let at = place_above boxes y now k run in
            let into : run_across boxes y.runs (parent_at boxes k) k ≡ run_at y.runs.top_runs k = goes_in boxes y.runs (parent_at boxes k) k k (next_here boxes tree y.runs is.has_runs k positive within) unclear in
            let whole : margins (run_across boxes y.runs (parent_at boxes k) k) ≡ margins c ++ top ∷ [] = ap margins (into ∙ rise_here) ∙ top_margins unclear in
            let reach = reach_is boxes y is tree now (parent_at boxes k) k run at strut end ends (rw whole (holds (margins c) run.strut_holds)) (λ t. opened_stands t) in
            elim (cases_lt j k) [
              | inl lt ↦ (let open_yet = waiting_open boxes y is tree now (parent_at boxes k) k run at was.so_far j a lt code in
                  mark_here boxes y is tree now (parent_at boxes k) k run at j a open_yet.0 open_yet.1 truth ∙ sym reach)
              | inr ge ↦ (let same : j ≡ k = omega (arith, b, ge) in
                  let start = start_flows boxes y is k positive within unclear in
                  ap (length_at y.places.marks) same ∙ mark_standing boxes y is k positive within stands ∙ (λ i. start i +ℤ collapse (margins (sym into i))) ∙ sym reach)
            ]
          where
            opened_stands : now.hangs ≡ true → flag_at y.runs.through now.first ≡ false
            opened_stands t =
                let h = run.hanging t in
                let le = h.open_yet in
                let u = up in
                true_or (flag_at y.runs.through now.first) (flag_at y.runs.through now.first ≡ false)
                (λ through. absurd (true_false (parts_tops boxes k) wall (through_inside boxes tree y.runs is.has_runs now.first k run.gathered.least (omega (arith, le, u)) within (contains_more now.first le h.contains) through).unparted))
                (λ f. f)

    tops_wall : (j : ℕ) → now.first ≤ j → j < k + 1 → has_top (parent_at boxes j) (run_at y.runs.before_tops j) ≡ not (nat_lt (parent_at boxes j) now.first)
    tops_wall j a b = elim was.run [ inl both ↦ goes_on both.0 both.1 | inr begins ↦ hangs begins ]
      where
        goes_on : flag_at y.runs.clears k ≡ false → IsInRun boxes y now (margin_place (parent_at boxes k) k) → has_top (parent_at boxes j) (run_at y.runs.before_tops j) ≡ not (nat_lt (parent_at boxes j) now.first)
        goes_on unclear run = elim (cases_lt j k) [
          | inl lt ↦ tops_here boxes y is tree now (parent_at boxes k) k run (place_above boxes y now k run) j a lt
          | inr ge ↦ (let same : j ≡ k = omega (arith, b, ge) in subst (λ (j : ℕ). has_top (parent_at boxes j) (run_at y.runs.before_tops j) ≡ not (nat_lt (parent_at boxes j) now.first)) (sym same) here)
        ]
          where
            here : has_top (parent_at boxes k) (run_at y.runs.before_tops k) ≡ not (nat_lt (parent_at boxes k) now.first)
            here = ap (has_top (parent_at boxes k)) (lead_goes_on boxes y.runs is.has_runs k positive within unclear) ∙ elim (cases_lt (parent_at boxes k) now.first) [
              | inl low ↦ run.gathered.older (parent_at boxes k) low ∙ sym (low_yes (parent_at boxes k) now.first low)
              | inr high ↦ run.gathered.own (parent_at boxes k) high up ∙ sym (low_not (parent_at boxes k) now.first high)
            ]

        hangs : BeginsRun y now k → has_top (parent_at boxes j) (run_at y.runs.before_tops j) ≡ not (nat_lt (parent_at boxes j) now.first)
        hangs begins =
            let f = begins.first_is in
            let same : j ≡ k = omega (arith, a, b, f) in
            let u = up in
            subst (λ (j : ℕ). has_top (parent_at boxes j) (run_at y.runs.before_tops j) ≡ not (nat_lt (parent_at boxes j) now.first)) (sym same)
            (ap (has_top (parent_at boxes k)) (lead_begins boxes y.runs is.has_runs k positive within begins.clears) ∙ sym (low_yes (parent_at boxes k) now.first (omega (arith, f, u))))

    first_least : 0 < now.first
    first_least = elim was.run [ inl both ↦ both.1.gathered.least | inr begins ↦ (let f = begins.first_is in omega (arith, f, positive)) ]

    first_most : now.first ≤ k
    first_most = elim was.run [ inl both ↦ both.1.gathered.most | inr begins ↦ (let f = begins.first_is in omega (arith, f)) ]

    pub opened_wall : (marks : List Length) (empty_strut : StrutValue) (start : ℤ) → Holds empty_strut [] → Settled boxes (ended_run (columns_of now) (k + 1) end) now.marks marks → start ≡ length_at marks k +ℤ (block_at boxes k).edge_top.0
        → IsAt boxes y (record now { marks = marks; start = start; strut = empty_strut; first = k + 1; hangs = false }) (margin_place k (k + 1))
    opened_wall marks empty_strut start empty settled starts =
        let f = first_most in
        let e = childless boxes tree y.runs is.has_runs k positive within in
        let come : run_before boxes y.runs k (k + 1) ≡ [] = first_comes boxes y.runs k (k + 1) e ∙ rw wall refl in
        let so_far = so_far_settled boxes tree y (columns_of now) marks k (k + 1) end first_least (omega (arith, f)) (omega (arith, within)) tops_wall ends_wall settled
        (so_far_opened boxes tree y (columns_of now) k positive within was.so_far) in
        record {
          so_far = so_far;
          in_run = record {
            gathered = open_parting boxes tree y.runs is.has_runs k positive within wall;
            strut_holds = let m = ap margins come in rw m empty;
            start_is = λ f. starts ∙ ap (λ (v : ℤ). v +ℤ (block_at boxes k).edge_top.0) (so_far.marked.stands k (omega arith) (was.so_far.fresh k (omega arith)) stands)
                ∙ sym (start_first boxes y k (k + 1) e ∙ rw wall refl);
            hanging = λ t. absurd (true_false false t refl);
          };
        }

  -- where the run ends, before the clearance of the box
  module _ (now : PassState) (end : ℤ) (clears : flag_at y.runs.clears k ≡ true) (ends : RunEnds now end) (was : IsAt boxes y now (margin_place (parent_at boxes k) k)) where
    at_above : IsPlace boxes (parent_at boxes k) k
    at_above = place_above boxes y now k was.in_run

    across : run_across boxes y.runs (parent_at boxes k) k ≡ run_before boxes y.runs (parent_at boxes k) k
    across = ends_above boxes y.runs (parent_at boxes k) k k (next_here boxes tree y.runs is.has_runs k positive within) clears

    before_stands : now.hangs ≡ true → flag_at y.runs.through now.first ≡ false
    before_stands t =
        let h = was.in_run.hanging t in
        let le = h.open_yet in
        let u = up in
        true_or (flag_at y.runs.through now.first) (flag_at y.runs.through now.first ≡ false)
        (λ through. absurd (true_false (flag_at y.runs.clears k) clears (through_inside boxes tree y.runs is.has_runs now.first k was.in_run.gathered.least (omega (arith, le, u)) within (contains_more now.first le h.contains) through).unclear))
        (λ f. f)

    ends_cleared : (j : ℕ) → now.first ≤ j → j < k → flag_at now.through j ≡ false → flag_at y.runs.through j ≡ false → length_at y.places.marks j ≡ end
    ends_cleared j a b code truth =
        let whole = ap margins across in
        let reach = reach_is boxes y is tree now (parent_at boxes k) k was.in_run at_above now.strut end ends (rw whole was.in_run.strut_holds) before_stands in
        let open_yet = waiting_open boxes y is tree now (parent_at boxes k) k was.in_run at_above was.so_far j a b code in
        mark_here boxes y is tree now (parent_at boxes k) k was.in_run at_above j a open_yet.0 open_yet.1 truth ∙ sym reach

    -- the clearance begins a run
    pub opened_cleared : (marks edges : List Length) (flags : List Bool) (empty_strut : StrutValue) (edge : ℤ) → Holds empty_strut [] → Settled boxes (ended_run (columns_of now) k end) now.marks marks → edge ≡ length_at y.clear_edges k
        → IsBefore boxes y (record now { marks = marks; clears = flags; clear_edges = edges; start = edge; strut = empty_strut; first = k; hangs = true }) k
    opened_cleared marks edges flags empty_strut edge empty settled edge_is = record {
      so_far = so_far_settled boxes tree y (columns_of now) marks (parent_at boxes k) k end was.in_run.gathered.least was.in_run.gathered.most (omega (arith, within))
          (tops_here boxes y is tree now (parent_at boxes k) k was.in_run at_above) ends_cleared settled was.so_far;
      run = inr (record { clears = clears; first_is = refl; hangs = refl; edge = edge_is; strut_holds = empty });
    }
