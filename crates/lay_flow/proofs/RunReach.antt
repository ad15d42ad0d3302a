-- Where the boxes that wait for their marks come to stand.
use Rattle.std.proofs.Common.{◌≡◌, ℕ, ◌<◌, ◌≤◌, not, nat_lt, true, false, ℤ, ◌+ℤ◌, ◌-ℤ◌, List, length, refl, sym, ap, ◌∙◌, arith, inl, inr}
use Rattle.std.proofs.lemmas.Bool.{cases_lt}
use Rattle.std.proofs.lemmas.Int.{ints}
use Rattle.lay_flow.specs.declared.blocks.flow_box.FlowBox.{FlowBox}
use Rattle.lay_flow.specs.Blocks.Boxes.{parent_at, parents_of}
use Rattle.lay_flow.proofs.BlocksLemmas.BoxTrees.{parent_before}
use Rattle.lay_margins.specs.StrutValue.{StrutValue}
use Rattle.lay_margins.specs.Collapse.{Holds, collapse}
use Rattle.lay_doc.specs.Tree.{IsTree}
use Rattle.lay_flow.specs.Blocks.Lengths.{length_at}
use Rattle.lay_flow.specs.Blocks.Children.{flag_at}
use Rattle.lay_flow.specs.Blocks.MarginRuns.{margins, has_top, run_at, run_across}
use Rattle.lay_flow.specs.Blocks.BlockLayout.{BlockLayout}
use Rattle.lay_flow.specs.Blocks.BlockPositions.{IsBlockLayout, start_before}
use Rattle.lay_flow.specs.Pass.State.{PassState, IsSoFar, IsInRun, columns_of}
use Rattle.lay_flow.proofs.BlocksLemmas.CollapsedThrough.{one_start}
use Rattle.lay_flow.proofs.BlocksLemmas.LayoutFacts.{mark_standing, start_clears}
use Rattle.lay_flow.specs.Blocks.MarginPlace.{IsPlace, IsAround, margin_place}
use Rattle.lay_flow.proofs.BlocksLemmas.Truths.{true_false, true_or}

-- where the run ends: at its clear edge, if it hangs
pub record RunEnds (now : PassState) (end : ℤ) : Type 0 where
  pub hanging : now.hangs ≡ true → end ≡ now.start
  pub value : now.hangs ≡ false → (ms : List ℤ) → Holds now.strut ms → end ≡ now.start +ℤ collapse ms

pub sum_two : (a b c d : ℤ) → a ≡ b → c ≡ d → (a +ℤ c) ≡ (b +ℤ d)
sum_two a b c d e f = rw (e, f) refl

back : (s e c : ℤ) → s ≡ e -ℤ c → e ≡ s +ℤ c
back s e c h = omega (arith, ints, h)

module _ (boxes : List FlowBox) (y : BlockLayout) (is : IsBlockLayout boxes y) (tree : IsTree (parents_of boxes))
    (now : PassState) (p m : ℕ) (in_run : IsInRun boxes y now (margin_place p m)) (at : IsPlace boxes p m) where
  pub starts_here : (j : ℕ) → now.first ≤ j → j ≤ p → IsAround boxes j m → length_at y.places.starts j ≡ start_before boxes y p m
  starts_here j a b holds = let lt = at.parent in one_start boxes tree y is now.first p m at in_run.gathered j j a b holds (omega arith) (omega (arith, b, lt))

  positive_here : (j : ℕ) → now.first ≤ j → 0 < j
  positive_here j a = let l = in_run.gathered.least in omega (arith, l, a)

  within_here : (j : ℕ) → j ≤ p → j < length boxes
  within_here j b = let lt = at.parent in let w = at.within in omega (arith, b, lt, w)

  -- the mark of an open box whose top margin is in the run
  pub mark_here : (j : ℕ) → now.first ≤ j → j ≤ p → IsAround boxes j m → flag_at y.runs.through j ≡ false
      → length_at y.places.marks j ≡ start_before boxes y p m +ℤ collapse (margins (run_across boxes y.runs p m))
  mark_here j a b holds truth =
      let start = starts_here j a b holds in
      let rise = in_run.gathered.rise j a b holds in
      mark_standing boxes y is j (positive_here j a) (within_here j b) truth ∙ (λ i. start i +ℤ collapse (margins (rise i)))

  -- the boxes that wait are open
  pub waiting_open : IsSoFar boxes y (columns_of now) (margin_place p m) → (j : ℕ) → now.first ≤ j → j < m → flag_at now.through j ≡ false → (j ≤ p) × IsAround boxes j m
  waiting_open so_far j a b code = (
    elim (cases_lt p j) [
      | inl over ↦ absurd (true_false (flag_at now.through j) ((so_far.closed j over b).pass ∙ in_run.gathered.closed j a over b) code)
      | inr under ↦ under
    ],
    λ i low high. elim (cases_lt (parent_at boxes i) j) [
      | inl before ↦ absurd (true_false (flag_at now.through j) ((so_far.gone j i low high before).pass ∙ in_run.gathered.gone j i a low high before) code)
      | inr from ↦ from
    ],
  )

  pub tops_here : (j : ℕ) → now.first ≤ j → j < m → has_top (parent_at boxes j) (run_at y.runs.before_tops j) ≡ not (nat_lt (parent_at boxes j) now.first)
  tops_here j a b = let w = at.within in in_run.gathered.leads (parent_at boxes j) j a b (parent_before boxes tree j (positive_here j a) (omega (arith, b, w)))

  -- where the run reaches to
  pub reach_is : (strut : StrutValue) (end : ℤ) → RunEnds (record now { strut = strut }) end → Holds strut (margins (run_across boxes y.runs p m)) → (now.hangs ≡ true → flag_at y.runs.through now.first ≡ false)
      → end ≡ start_before boxes y p m +ℤ collapse (margins (run_across boxes y.runs p m))
  reach_is strut end ends holds stands = true_or now.hangs (end ≡ start_before boxes y p m +ℤ collapse (margins (run_across boxes y.runs p m)))
      (λ t. let h = in_run.hanging t in
      let f : ℕ = now.first in
      let e = h.open_yet in
      let truth = stands t in
      let clears = start_clears boxes y is f (positive_here f (omega arith)) (within_here f e) h.clears truth in
      ends.hanging t ∙ h.edge ∙ back (length_at y.places.starts f) (length_at y.clear_edges f) (collapse (margins (run_at y.runs.top_runs f))) clears
      ∙ sym (mark_standing boxes y is f (positive_here f (omega arith)) (within_here f e) truth) ∙ mark_here f (omega arith) e h.contains truth)
      (λ f. let s = in_run.start_is f in ends.value f _ holds ∙ ap (λ (v : ℤ). v +ℤ collapse (margins (run_across boxes y.runs p m))) s)
