-- A box is collapsed through just where its children are and nothing of its own parts its margins.
use Rattle.std.proofs.Common.{◌≡◌, ℕ, zero, suc, ◌+◌, ◌<◌, ◌≤◌, ◌&&◌, not, nat_lt, Bool, true, false, List, length, refl, sym, ap, ◌∙◌, arith, inl, inr, Option, Some, None}
use Rattle.std.proofs.lemmas.Bool.{cases_eq, and_parts}
use Rattle.lay_doc.specs.Tree.{IsTree}
use Rattle.lay_flow.specs.declared.blocks.flow_box.FlowBox.{FlowBox}
use Rattle.lay_flow.specs.Blocks.Boxes.{parent_at, parents_of}
use Rattle.lay_flow.specs.Blocks.Children.{is_child, last_child, flag_at}
use Rattle.lay_flow.specs.Blocks.Laws.{CollapsedThrough}
use Rattle.lay_flow.specs.Blocks.MarginRuns.{Runs, HasRuns, block_at, has_top, may_collapse_through, run_at, run_before}
use Rattle.lay_flow.proofs.BlocksLemmas.BoxTrees.{parents_together}
use Rattle.lay_flow.proofs.BlocksLemmas.CollapsedThrough.{end_of, end_place, through_inside}
use Rattle.lay_flow.proofs.BlocksLemmas.GatheredRuns.{gathers, last_over, passes_here}
use Rattle.lay_flow.proofs.BlocksLemmas.RunEntries.{bottom_same, top_here}
use Rattle.lay_flow.proofs.BlocksLemmas.RunFacts.{lead_goes_on, next_comes, passes_is}
use Rattle.lay_flow.proofs.BlocksLemmas.RunsAdjoin.{bottom_goes_on, first_open, joins_through, open_above}
use Rattle.lay_flow.proofs.BlocksLemmas.Siblings.{child_parent, last_is}
use Rattle.lay_flow.proofs.BlocksLemmas.Truths.{not_low}
use Rattle.lay_flow.specs.Blocks.MarginPlace.{IsAround}

module _ (boxes : List FlowBox) (tree : IsTree (parents_of boxes)) (r : Runs) (is : HasRuns boxes r) where
  -- the run that comes to the end of a box that is collapsed through still has what it had before the box
  stays : (p s : ℕ) → p < s → s < length boxes → flag_at r.through s ≡ true → has_top p (run_at r.before_tops s) ≡ true → has_top p (run_before boxes r s (length boxes)) ≡ true
  stays p s lt within through had =
      let end = end_of boxes s within in
      let e = end.ends in
      let m : ℕ = end.end in
      let there = gathers boxes tree r is s m (end_place boxes s m e) in
      let g = there.is_gathered in
      let low : there.first ≤ s = not_low s there.first (and_parts (may_collapse_through (block_at boxes s)) (not (nat_lt s there.first)) (sym (passes_here boxes tree r is s m (omega (arith, lt)) e.parent e.within e.ends e.inside there.first g) ∙ through)).1 in
      let from : there.first ≤ p = not_low p there.first (sym (g.leads p s low e.parent lt) ∙ had) in
      let over = e.parent in
      let last = last_over boxes tree r is s m (omega (arith, lt)) e.parent e.within e.ends e.inside in
      let same : run_before boxes r s (length boxes) ≡ run_before boxes r s m = rw last refl in
      ap (has_top p) same ∙ g.own p from (omega (arith, lt, over))

  module _ (p : ℕ) (positive : 0 < p) (may : may_collapse_through (block_at boxes p) ≡ true)
      (passes : (c : ℕ) → c < length boxes → is_child boxes p c ≡ true → (flag_at r.through c ≡ true) × (flag_at r.clears c ≡ false)) where
    top_step : (m : ℕ) → m ≤ length boxes → ((s : ℕ) → s < m → has_top p (run_before boxes r p s) ≡ true) → has_top p (run_before boxes r p m) ≡ true
    top_step m within before = go (last_child boxes p m) refl
      where
        go : (o : Option ℕ) → last_child boxes p m ≡ o → has_top p (run_before boxes r p m) ≡ true
        go None none = ap (has_top p) (first_open boxes tree r is p m none (open_above boxes tree r is p positive may)) ∙ top_here p (block_at boxes p).margin_top.0 (run_at r.before_tops p)
        go (Some s) last =
            let l = last_is boxes p m s last in
            let lt = l.before in
            let c_is = child_parent boxes p s l.child in
            let above = c_is.0 in
            let inner : s < length boxes = omega (arith, lt, within) in
            let pass = passes s inner l.child in
            let lead = lead_goes_on boxes r is s (omega (arith, above)) inner pass.1 ∙ ap (λ (q : ℕ). run_before boxes r q s) c_is.1 in
            let had = ap (has_top p) lead ∙ before s lt in
            ap (has_top p) (next_comes boxes r p m s last ∙ bottom_goes_on boxes tree r is s (omega (arith, above)) inner (joins_through boxes tree r is s (omega (arith, above)) pass.0))
            ∙ bottom_same p (block_at boxes s).margin_bottom.0 (run_before boxes r s (length boxes)) ∙ stays p s above inner pass.0 had

    top_stays : (fuel m : ℕ) → m ≤ fuel → m ≤ length boxes → has_top p (run_before boxes r p m) ≡ true
    top_stays zero m few within = top_step m within (λ s lt. absurd (omega (arith, lt, few)))
    top_stays (suc fuel) m few within = top_step m within (λ s lt. top_stays fuel s (omega (arith, lt, few)) (omega (arith, lt, within)))

pub collapsed_through_lem : CollapsedThrough
collapsed_through_lem boxes r tree is p positive within = (
  λ through. (
    (and_parts (may_collapse_through (block_at boxes p)) _ (sym (passes_is boxes r is p positive within) ∙ through)).0,
    λ c inner child.
        let c_is = child_parent boxes p c child in
        let above = c_is.0 in
        let up = c_is.1 in
        let around : IsAround boxes p (c + 1) = λ i low high. elim (cases_eq i c) [
          | inl e ↦ (let q = ap (parent_at boxes) e in omega (arith, q, up))
          | inr ne ↦ (let t = parents_together boxes tree i c (omega (arith, high, ne)) inner (omega (arith, up, low)) in omega (arith, t, up))
        ] in
        let pass = through_inside boxes tree r is p c positive above inner around through in
        (pass.through, pass.unclear),
  ),
  λ both. passes_is boxes r is p positive within ∙ two (may_collapse_through (block_at boxes p)) _ both.0 (top_stays boxes tree r is p positive both.0 both.1 (length boxes) (length boxes) (omega arith) (omega arith)),
)
  where
    two : (a b : Bool) → a ≡ true → b ≡ true → (a && b) ≡ true
    two a b s t = grind (arith, s, t)
