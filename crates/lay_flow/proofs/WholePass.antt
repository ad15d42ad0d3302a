-- All boxes are closed.
use Rattle.std.proofs.Common.{◌≡◌, ℕ, zero, suc, ◌<◌, ◌≤◌, true, false, ℤ, ◌+ℤ◌, List, [], length, refl, sym, ap, ◌∙◌, arith}
use Rattle.lay_flow.specs.declared.blocks.flow_box.FlowBox.{FlowBox}
use Rattle.lay_flow.specs.Blocks.Boxes.{parent_at, parents_of}
use Rattle.lay_flow.proofs.BlocksLemmas.BoxTrees.{parent_before}
use Rattle.lay_units.specs.declared.length.Unit.{Unit as Length}
use Rattle.lay_margins.specs.Collapse.{Holds, collapse}
use Rattle.lay_doc.specs.Tree.{IsTree}
use Rattle.lay_flow.specs.Blocks.Lengths.{length_at}
use Rattle.lay_flow.specs.Blocks.Children.{flag_at}
use Rattle.lay_flow.specs.Blocks.MarginRuns.{Entry, block_at, margins, has_top, run_at, run_before, run_across}
use Rattle.lay_flow.specs.Blocks.BlockLayout.{BlockLayout}
use Rattle.lay_flow.specs.Blocks.BlockPositions.{IsBlockLayout, start_before}
use Rattle.lay_flow.specs.Pass.State.{Marked, Settled, PassState, IsAt, Columns, columns_of, ended_run}
use Rattle.lay_flow.proofs.BlocksLemmas.ChildPlaces.{next_none}
use Rattle.lay_flow.proofs.BlocksLemmas.GatheredRuns.{begins as gathered_begins}
use Rattle.lay_flow.proofs.BlocksLemmas.LayoutFacts.{mark_inherits}
use Rattle.lay_flow.specs.Blocks.MarginPlace.{IsPlace, margin_place}
use Rattle.lay_flow.proofs.BlocksLemmas.RunFacts.{ends_inside}
use Rattle.lay_flow.proofs.RunReach.{RunEnds, mark_here, waiting_open, tops_here, reach_is}
use Rattle.lay_flow.proofs.SoFar.{so_far_settled}
use Rattle.lay_flow.proofs.BlocksLemmas.Truths.{true_false, true_or}

module _ (boxes : List FlowBox) (y : BlockLayout) (is : IsBlockLayout boxes y) (tree : IsTree (parents_of boxes)) where
  -- the marks, once every run has ended
  marks_to : (now : Columns) → now.first ≤ length boxes → Marked boxes y now
      → ((j : ℕ) → j < now.first → flag_at now.through j ≡ true → has_top (parent_at boxes j) (run_at y.runs.before_tops j) ≡ false → length_at now.marks j ≡ length_at y.places.marks j)
      → ((j : ℕ) → 0 < j → j < now.first → flag_at now.through j ≡ flag_at y.runs.through j)
      → length_at now.marks 0 ≡ length_at y.places.marks 0
      → (m : ℕ) → m ≤ now.first → (j : ℕ) → j < m → length_at now.marks j ≡ length_at y.places.marks j
  marks_to now within marked kept known root zero le j lt = absurd (omega (arith, lt))
  marks_to now within marked kept known root (suc m) le zero lt = root
  marks_to now within marked kept known root (suc m) le (suc j) lt =
      let k : ℕ = suc j in
      let less : k < now.first = omega (arith, lt, le) in
      let same = known k (omega arith) less in
      let b = parent_before boxes tree k (omega arith) (omega (arith, less, within)) in
      true_or (flag_at now.through k) (length_at now.marks k ≡ length_at y.places.marks k)
      (λ t. true_or (has_top (parent_at boxes k) (run_at y.runs.before_tops k)) (length_at now.marks k ≡ length_at y.places.marks k)
      (λ top. marked.inherits k less t top
      ∙ marks_to now within marked kept known root m (omega (arith, le)) (parent_at boxes k) (omega (arith, b, lt))
      ∙ sym (mark_inherits boxes y is k (omega arith) (omega (arith, less, within)) (sym same ∙ t) top))
      (λ top. kept k less t top))
      (λ f. marked.stands k less f (sym same ∙ f))

  module _ (now : PassState) (was : IsAt boxes y now (margin_place 0 (length boxes))) (end : ℤ) (reach : RunEnds now end) where
    at_end : IsPlace boxes 0 (length boxes)
    at_end = record { parent = was.in_run.gathered.parent; within = omega arith; inside = was.in_run.gathered.inside; next = λ w. absurd (omega (arith, w)) }

    across : run_across boxes y.runs 0 (length boxes) ≡ run_before boxes y.runs 0 (length boxes)
    across = ends_inside boxes y.runs 0 (length boxes) (next_none boxes 0 (length boxes) (length boxes) (λ k low high. absurd (omega (arith, low, high)))) refl

    -- no box is open
    flows : now.hangs ≡ true → flag_at y.runs.through now.first ≡ false
    flows t = let h = was.in_run.hanging t in let o = h.open_yet in let l = was.in_run.gathered.least in absurd (omega (arith, o, l))

    pub reach_end : end ≡ start_before boxes y 0 (length boxes) +ℤ collapse (margins (run_before boxes y.runs 0 (length boxes)))
    reach_end =
        let whole = ap margins across in
        reach_is boxes y is tree now 0 (length boxes) was.in_run at_end now.strut end reach (rw whole was.in_run.strut_holds) flows
        ∙ ap (λ (run : List Entry). start_before boxes y 0 (length boxes) +ℤ collapse (margins run)) across

    -- at the end all boxes have the marks and the heights of the layout
    pub all_marks : (marks : List Length) → length_at now.marks 0 ≡ length_at y.places.marks 0 → Settled boxes (ended_run (columns_of now) (length boxes) end) now.marks marks
        → (j : ℕ) → j < length boxes → length_at marks j ≡ length_at y.places.marks j
    all_marks marks root settled =
        let so_far = so_far_settled boxes tree y (columns_of now) marks 0 (length boxes) end was.in_run.gathered.least was.in_run.gathered.most (omega arith)
        (tops_here boxes y is tree now 0 (length boxes) was.in_run at_end)
        (λ j a b code truth. let open_yet = waiting_open boxes y is tree now 0 (length boxes) was.in_run at_end was.so_far j a b code in
        mark_here boxes y is tree now 0 (length boxes) was.in_run at_end j a open_yet.0 open_yet.1 truth
        ∙ ap (λ (run : List Entry). start_before boxes y 0 (length boxes) +ℤ collapse (margins run)) across ∙ sym reach_end) settled was.so_far in
        marks_to (record (columns_of now) { marks = marks; first = length boxes }) (omega arith) so_far.marked so_far.kept (λ j a b. (was.so_far.closed j a b).pass)
        (let l = was.in_run.gathered.least in settled.before 0 l ∙ root) (length boxes) (omega arith)

    pub all_heights : (j : ℕ) → 0 < j → j < length boxes → length_at now.heights j ≡ length_at y.places.heights j
    all_heights j a b = (was.so_far.closed j a b).height

  -- before the first box
  pub begins : (now : PassState) → 0 < length boxes → now.first ≡ 1 → now.hangs ≡ false
      → Holds now.strut [] → now.start ≡ length_at y.places.marks 0 +ℤ (block_at boxes 0).edge_top.0 → length_at now.marks 0 ≡ length_at y.places.marks 0 → ((j : ℕ) → flag_at now.through j ≡ false) → IsAt boxes y now (margin_place 0 1)
  begins now some first hangs holds start root fresh = record {
    so_far = record {
      passed = λ j b c. absurd (true_false (flag_at now.through j) c (fresh j));
      closed = λ j a b. absurd (omega (arith, a, b));
      gone = λ j i a b lower. absurd (omega (arith, a, b));
      marked = record {
        stands = λ j a c t. let e : j ≡ 0 = omega (arith, a, first) in rw e root;
        inherits = λ j a c t. absurd (true_false (flag_at now.through j) c (fresh j));
      };
      kept = λ j b c t. absurd (true_false (flag_at now.through j) c (fresh j));
      fresh = λ j a. fresh j;
      open_yet = λ j a within. fresh j;
    };
    in_run = record {
      gathered = rw first (gathered_begins boxes tree y.runs is.has_runs some);
      strut_holds = holds;
      start_is = λ f. start;
      hanging = λ t. absurd (true_false now.hangs t hangs);
    };
  }
