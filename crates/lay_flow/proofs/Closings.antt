-- A box is closed.
use Rattle.std.proofs.Common.{◌≡◌, ℕ, ◌<◌, ◌≤◌, ◌==◌, ◌&&◌, ◌||◌, not, nat_lt, Bool, true, false, ℤ, pos, ◌+ℤ◌, ◌-ℤ◌, List, [], ◌∷◌, ◌++◌, length, refl, sym, ap, ◌∙◌, arith, inl, inr}
use Rattle.std.proofs.lemmas.Bool.{cases_eq}
use Rattle.lay_flow.specs.declared.blocks.flow_box.FlowBox.{FlowBox}
use Rattle.lay_flow.specs.Blocks.Boxes.{parent_at, parents_of}
use Rattle.lay_units.specs.declared.length.Unit.{Unit as Length}
use Rattle.lay_margins.specs.StrutValue.{StrutValue}
use Rattle.lay_margins.specs.Collapse.{Holds, collapse}
use Rattle.lay_doc.specs.Tree.{IsTree}
use Rattle.lay_flow.specs.Blocks.Lengths.{length_at}
use Rattle.lay_flow.specs.Blocks.Children.{flag_at}
use Rattle.lay_flow.specs.Blocks.MarginRuns.{Entry, margin, margins, has_top, is_barred, block_at, run_at, run_before, run_across, joins_bottom, may_collapse_through, may_join_bottoms}
use Rattle.lay_flow.specs.Blocks.BlockLayout.{BlockLayout}
use Rattle.lay_flow.specs.Blocks.BlockPositions.{IsBlockLayout, start_before, start_below}
use Rattle.lay_flow.specs.Pass.State.{Settled, PassState, IsAt, columns_of, ended_run}
use Rattle.lay_flow.proofs.BlocksLemmas.CollapsedThrough.{through_inside}
use Rattle.lay_flow.proofs.BlocksLemmas.GatheredRuns.{comes_here, comes_up, last_up, childless_on, passes_here, close_joined as gathered_joined, close_parted as gathered_parted}
use Rattle.lay_flow.proofs.BlocksLemmas.LayoutFacts.{start_next, start_clears_through, mark_through}
use Rattle.lay_flow.specs.Blocks.MarginPlace.{IsPlace, margin_place}
use Rattle.lay_flow.proofs.Openings.{WithMargin}
use Rattle.lay_flow.proofs.BlocksLemmas.RunEntries.{margins-append}
use Rattle.lay_flow.proofs.BlocksLemmas.RunFacts.{ends_inside, to_bottom_is, joins_is}
use Rattle.lay_flow.proofs.RunReach.{RunEnds, sum_two, starts_here, mark_here, waiting_open, tops_here, reach_is}
use Rattle.lay_flow.proofs.SoFar.{Wrote, so_far_settled, so_far_closed, so_far_through}
use Rattle.lay_flow.proofs.BlocksLemmas.Truths.{true_false, true_or, low_not}

module _ (boxes : List FlowBox) (y : BlockLayout) (is : IsBlockLayout boxes y) (tree : IsTree (parents_of boxes))
    (now : PassState) (p m : ℕ) (positive : 0 < p) (was : IsAt boxes y now (margin_place p m)) (ends : m < length boxes → parent_at boxes m < p) where
  lt : p < m
  lt = was.in_run.gathered.parent

  within : m ≤ length boxes
  within = was.in_run.gathered.within

  within_p : p < length boxes
  within_p = let a = lt in let b = within in omega (arith, a, b)

  inside : (i : ℕ) → p < i → i < m → p ≤ parent_at boxes i
  inside = was.in_run.gathered.inside

  pub place_below : IsPlace boxes p m
  place_below = record { parent = lt; within = within; inside = inside; next = λ w. let e = ends w in omega (arith, e) }

  abbrev c : List Entry
  c = run_before boxes y.runs p m

  abbrev bottom : ℤ
  bottom = (block_at boxes p).margin_bottom.0

  pub coming_here : run_before boxes y.runs p (length boxes) ≡ run_before boxes y.runs p m
  coming_here = comes_here boxes tree y.runs is.has_runs p m positive lt within ends inside

  pub out_parted : joins_bottom boxes y.runs p ≡ false → run_across boxes y.runs p m ≡ run_before boxes y.runs p m
  out_parted parted = ends_inside boxes y.runs p m (childless_on boxes tree y.runs is.has_runs p m positive lt within ends inside) parted

  start_up : start_before boxes y (parent_at boxes p) m ≡ start_below y p
  start_up = start_next boxes y (parent_at boxes p) m p (last_up boxes tree y.runs is.has_runs p m positive lt within ends inside)

  come_joined : joins_bottom boxes y.runs p ≡ true → run_before boxes y.runs (parent_at boxes p) m ≡ c ++ margin bottom ∷ []
  come_joined j = comes_up boxes tree y.runs is.has_runs p m positive lt within ends inside ∙ to_bottom_is boxes y.runs is.has_runs p positive within_p ∙ (let h = coming_here in rw (j, h) refl)

  come_parted : joins_bottom boxes y.runs p ≡ false → run_before boxes y.runs (parent_at boxes p) m ≡ margin bottom ∷ []
  come_parted j = comes_up boxes tree y.runs is.has_runs p m positive lt within ends inside ∙ to_bottom_is boxes y.runs is.has_runs p positive within_p ∙ rw j refl

  holds_joined : (strut : StrutValue) → joins_bottom boxes y.runs p ≡ true → WithMargin now.strut strut bottom → Holds strut (margins (run_before boxes y.runs (parent_at boxes p) m))
  holds_joined strut j holds = let e = ap margins (come_joined j) ∙ margins-append c (margin bottom ∷ []) in rw e (holds (margins c) was.in_run.strut_holds)

  pub code_open : flag_at now.through p ≡ false
  code_open = was.so_far.open_yet p (omega arith) inside

  pub passes_is : flag_at y.runs.through p ≡ (may_collapse_through (block_at boxes p) && not (nat_lt p now.first))
  passes_is = passes_here boxes tree y.runs is.has_runs p m positive lt within ends inside now.first was.in_run.gathered

  pub joined_here : joins_bottom boxes y.runs p ≡ (flag_at y.runs.through p || (may_join_bottoms (block_at boxes p) && not (nat_lt now.first m && flag_at y.runs.clears now.first && parent_at boxes now.first == p)))
  joined_here = joins_is boxes y.runs p positive ∙ ap (λ (b : Bool). flag_at y.runs.through p || (may_join_bottoms (block_at boxes p) && not b)) (ap (is_barred boxes p) coming_here ∙ was.in_run.gathered.barred p)

  pub through_here : may_collapse_through (block_at boxes p) ≡ true → now.first ≤ p → flag_at y.runs.through p ≡ true
  through_here may waits = passes_is ∙ (let e : not (nat_lt p now.first) ≡ true = low_not p now.first waits in rw (may, e) refl)

  -- the run that its clearance began starts above its clear edge
  pub started : (start : ℤ) → may_collapse_through (block_at boxes p) ≡ true → now.hangs ≡ true → now.first ≡ p → ((ms : List ℤ) → Holds now.strut ms → start ≡ now.start -ℤ collapse ms)
      → IsAt boxes y (record now { start = start; hangs = false }) (margin_place p m)
  started start may hangs first value = record {
    so_far = was.so_far;
    in_run = record {
      gathered = was.in_run.gathered;
      strut_holds = was.in_run.strut_holds;
      start_is = λ f. let h = was.in_run.hanging hangs in
          let truth = through_here may (omega (arith, first)) in
          let edge = h.edge ∙ ap (length_at y.clear_edges) first in
          let here = start_clears_through boxes y is p positive within_p (sym (ap (flag_at y.runs.clears) first) ∙ h.clears) truth in
          value _ was.in_run.strut_holds ∙ (λ i. edge i -ℤ collapse (margins (sym coming_here i))) ∙ sym here ∙ starts_here boxes y is tree now p m was.in_run place_below p (omega (arith, first)) (omega arith) inside;
      hanging = λ t. absurd (true_false false t refl);
    };
  }

  -- its margins are in one run
  pub close_passing : (marks heights : List Length) (flags : List Bool) (strut : StrutValue) (mark : ℤ) → may_collapse_through (block_at boxes p) ≡ true → now.first ≤ p → (now.hangs ≡ true → now.first < p)
      → RunEnds now mark
      → Wrote length_at now.marks marks p mark → Wrote length_at now.heights heights p (pos 0) → Wrote flag_at now.through flags p true → WithMargin now.strut strut bottom
      → IsAt boxes y (record now { marks = marks; heights = heights; through = flags; strut = strut }) (margin_place (parent_at boxes p) m)
  close_passing marks heights flags strut mark may waits below reach wrote_mark wrote_height wrote_flag holds =
      let g = was.in_run.gathered in
      let truth = through_here may waits in
      let joined : joins_bottom boxes y.runs p ≡ true = joined_here ∙ rw truth refl in
      let zero_high : length_at y.places.heights p ≡ pos 0 = is.has_positions.height p within_p ∙ rw truth refl in
      let start = starts_here boxes y is tree now p m was.in_run place_below p waits (omega arith) inside in
      record {
        so_far = so_far_through boxes tree y p m positive lt within inside (columns_of now) (record { marks = marks; heights = heights; through = flags; first = now.first }) mark refl g.least waits truth zero_high wrote_mark wrote_height wrote_flag (mark_is truth) was.so_far;
        in_run = record {
          gathered = gathered_joined boxes tree y.runs is.has_runs p m positive lt within ends inside now.first g joined;
          strut_holds = holds_joined strut joined holds;
          start_is = λ f. was.in_run.start_is f ∙ sym start ∙ sym (start_up ∙ rw truth refl);
          hanging = λ t. let h = was.in_run.hanging t in record {
            clears = h.clears;
            edge = h.edge;
            open_yet = h.contains p (below t) lt;
            contains = h.contains;
          };
        };
      }
    where
      mark_is : flag_at y.runs.through p ≡ true → has_top (parent_at boxes p) (run_at y.runs.before_tops p) ≡ false → mark ≡ length_at y.places.marks p
      mark_is truth none = true_or now.hangs (mark ≡ length_at y.places.marks p)
          (λ t. let h = was.in_run.hanging t in absurd (true_false (has_top (parent_at boxes p) (run_at y.runs.before_tops p))
          (tops_here boxes y is tree now p m was.in_run place_below p waits lt ∙ low_not (parent_at boxes p) now.first (h.contains p (below t) lt)) none))
          (λ f. let start = was.in_run.start_is f ∙ sym (starts_here boxes y is tree now p m was.in_run place_below p waits (omega arith) inside) in
          reach.value f _ was.in_run.strut_holds ∙ (λ i. start i +ℤ collapse (margins (sym coming_here i))) ∙ sym (mark_through boxes y is p positive within_p truth none))

  -- where the run ends that comes to its bottom margin
  module _ (truth : flag_at y.runs.through p ≡ false) (parted : joins_bottom boxes y.runs p ≡ false) (end : ℤ) (reach : RunEnds now end) where
    stands : now.hangs ≡ true → flag_at y.runs.through now.first ≡ false
    stands t =
        let h = was.in_run.hanging t in
        let le = h.open_yet in
        true_or (flag_at y.runs.through now.first) (flag_at y.runs.through now.first ≡ false)
        (λ through. elim (cases_eq now.first p) [
          | inl e ↦ ap (flag_at y.runs.through) e ∙ truth
          | inr ne ↦ (let l = lt in absurd (true_false (flag_at y.runs.through p) (through_inside boxes tree y.runs is.has_runs now.first p was.in_run.gathered.least (omega (arith, le, ne)) within_p (λ i low high. h.contains i low (omega (arith, high, l))) through).through truth))
        ])
        (λ f. f)

    pub reach_parted : end ≡ start_before boxes y p m +ℤ collapse (margins (run_before boxes y.runs p m))
    reach_parted =
        let whole = ap margins (out_parted parted) in
        reach_is boxes y is tree now p m was.in_run place_below now.strut end reach (rw whole was.in_run.strut_holds) stands
        ∙ ap (λ (ms : List ℤ). start_before boxes y p m +ℤ collapse ms) whole

    ends_parted : (j : ℕ) → now.first ≤ j → j < m → flag_at now.through j ≡ false → flag_at y.runs.through j ≡ false → length_at y.places.marks j ≡ end
    ends_parted j a b code truth_j =
        let open_yet = waiting_open boxes y is tree now p m was.in_run place_below was.so_far j a b code in
        mark_here boxes y is tree now p m was.in_run place_below j a open_yet.0 open_yet.1 truth_j
        ∙ ap (λ (run : List Entry). start_before boxes y p m +ℤ collapse (margins run)) (out_parted parted) ∙ sym reach_parted

    module _ (marks : List Length) (settled : Settled boxes (ended_run (columns_of now) m end) now.marks marks) where
      pub mark_parted : length_at marks p ≡ length_at y.places.marks p
      mark_parted =
          (so_far_settled boxes tree y (columns_of now) marks p m end was.in_run.gathered.least was.in_run.gathered.most within
          (tops_here boxes y is tree now p m was.in_run place_below) ends_parted settled was.so_far).marked.stands p lt code_open truth

      -- its bottom margin begins a run
      pub close_parted : (heights : List Length) (strut : StrutValue) (start : ℤ) → Wrote length_at now.heights heights p (length_at y.places.heights p) → start ≡ length_at marks p +ℤ length_at heights p → Holds strut (bottom ∷ [])
          → IsAt boxes y (record now { marks = marks; heights = heights; start = start; strut = strut; first = m; hangs = false }) (margin_place (parent_at boxes p) m)
      close_parted heights strut start wrote starts holds = record {
        so_far = so_far_closed boxes tree y p m positive lt within inside (record (columns_of now) { marks = marks; first = m }) heights truth wrote
            (so_far_settled boxes tree y (columns_of now) marks p m end was.in_run.gathered.least was.in_run.gathered.most within
            (tops_here boxes y is tree now p m was.in_run place_below) ends_parted settled was.so_far);
        in_run = record {
          gathered = gathered_parted boxes tree y.runs is.has_runs p m positive lt within ends inside parted;
          strut_holds = let e = ap margins (come_parted parted) in rw e holds;
          start_is = λ f. starts ∙ sum_two (length_at marks p) (length_at y.places.marks p) (length_at heights p) (length_at y.places.heights p) mark_parted wrote.here ∙ sym (start_up ∙ rw truth refl);
          hanging = λ t. absurd (true_false false t refl);
        };
      }

  -- its bottom margin adjoins that of its last child, and its top margin is in an earlier run
  pub not_hanging : p < now.first → now.hangs ≡ false
  not_hanging before = true_or now.hangs (now.hangs ≡ false) (λ t. let h = was.in_run.hanging t in let o = h.open_yet in absurd (omega (arith, o, before))) (λ f. f)

  pub close_joined : (heights : List Length) (strut : StrutValue) (start : ℤ) → flag_at y.runs.through p ≡ false → joins_bottom boxes y.runs p ≡ true → p < now.first
      → Wrote length_at now.heights heights p (length_at y.places.heights p) → start ≡ length_at now.marks p +ℤ length_at heights p → WithMargin now.strut strut bottom
      → IsAt boxes y (record now { heights = heights; start = start; strut = strut }) (margin_place (parent_at boxes p) m)
  close_joined heights strut start truth joined before wrote starts holds = record {
    so_far = so_far_closed boxes tree y p m positive lt within inside (columns_of now) heights truth wrote was.so_far;
    in_run = record {
      gathered = gathered_joined boxes tree y.runs is.has_runs p m positive lt within ends inside now.first was.in_run.gathered joined;
      strut_holds = holds_joined strut joined holds;
      start_is = λ f. starts ∙ sum_two (length_at now.marks p) (length_at y.places.marks p) (length_at heights p) (length_at y.places.heights p) (was.so_far.marked.stands p before code_open truth) wrote.here ∙ sym (start_up ∙ rw truth refl);
      hanging = λ t. absurd (true_false now.hangs t (not_hanging before));
    };
  }
