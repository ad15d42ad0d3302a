-- Runs up to a place don't depend on clearance of boxes from there on.
use Rattle.std.proofs.Common.{◌≡◌, ℕ, ◌+◌, ◌<◌, ◌≤◌, List, length, sym, ◌∙◌, arith, inl, inr, subst}
use Rattle.std.proofs.lemmas.Bool.{cases_lt, cases_eq}
use Rattle.lay_flow.specs.declared.blocks.flow_box.FlowBox.{FlowBox}
use Rattle.lay_flow.specs.Blocks.Boxes.{parent_at, parents_of}
use Rattle.lay_flow.proofs.BlocksLemmas.BoxTrees.{parent_before}
use Rattle.lay_doc.specs.Tree.{IsTree}
use Rattle.lay_flow.specs.Blocks.Children.{flag_at}
use Rattle.lay_flow.specs.Blocks.MarginRuns.{Runs, HasRuns, run_at, run_before}
use Rattle.lay_flow.specs.Blocks.MarginPlace.{IsPlace, IsAround, margin_place}
use Rattle.lay_flow.proofs.BlocksLemmas.ChildPlaces.{last_same}
use Rattle.lay_flow.proofs.BlocksLemmas.MarginWalk.{walk_to}
use Rattle.lay_flow.proofs.BlocksLemmas.RunsAgree.{Same, Closed, none_left, before_same, lead_same, pass_same, tail_same}

module _ (boxes : List FlowBox) (tree : IsTree (parents_of boxes)) (r x : Runs) (is : HasRuns boxes r) (also : HasRuns boxes x)
    (limit : ℕ) (clears : (j : ℕ) → j < limit → flag_at r.clears j ≡ flag_at x.clears j) where
  abbrev Agrees : ℕ → ℕ → Type 0
  Agrees p m = m ≤ limit → Same boxes r x (margin_place p m)

  run_same : (p m : ℕ) → p < m → Same boxes r x (margin_place p m) → run_before boxes r p m ≡ run_before boxes x p m
  run_same p m lt s = before_same boxes r x p m (s.lead p lt) (λ c low high. (s.closed c low high).tail)

  opens_agree : (k : ℕ) → 0 < k → k < length boxes → Agrees (parent_at boxes k) k → Agrees k (k + 1)
  opens_agree k positive within was le =
      let before = was (omega (arith, le)) in
      let mine : run_at r.before_tops k ≡ run_at x.before_tops k = is.before_top k within
      ∙ lead_same boxes r x k positive (clears k (omega (arith, le))) (run_same (parent_at boxes k) k (parent_before boxes tree k positive within) before) ∙ sym (also.before_top k within) in
      record {
        lead = λ j high. elim (cases_lt j k) [
          | inl lt ↦ before.lead j lt
          | inr ge ↦ (let e : j ≡ k = omega (arith, high, ge) in subst (λ (j : ℕ). run_at r.before_tops j ≡ run_at x.before_tops j) (sym e) mine)
        ];
        closed = λ j low high. absurd (omega (arith, low, high));
        gone = λ j i low high lower. elim (cases_lt i k) [
          | inl lt ↦ before.gone j i low lt lower
          | inr ge ↦ (let e : i ≡ k = omega (arith, high, ge) in before.closed j (rw e at lower) (omega (arith, low, e)))
        ];
      }

  closes_agree : (p m : ℕ) → 0 < p → p < m → m ≤ length boxes → (m < length boxes → parent_at boxes m < p) → IsAround boxes p m → Agrees p m → Agrees (parent_at boxes p) m
  closes_agree p m positive lt within ends inside was le =
      let before = was le in
      let inner : p < length boxes = omega (arith, lt, within) in
      let last = last_same boxes p m (length boxes) within (none_left boxes tree p m lt ends) in
      let come : run_before boxes r p (length boxes) ≡ run_before boxes x p (length boxes) = (let here = run_same p m lt before in rw last here) in
      let pass = is.through p inner ∙ pass_same boxes r x p positive come ∙ sym (also.through p inner) in
      let tail = is.to_bottom p inner ∙ tail_same boxes r x p positive pass come ∙ sym (also.to_bottom p inner) in
      let mine : Closed r x p = record { pass = pass; tail = tail } in
      record {
        lead = before.lead;
        closed = λ j low high. elim (cases_lt j p) [
          | inl earlier ↦ before.gone j p earlier lt low
          | inr from ↦ elim (cases_eq j p) [
            | inl e ↦ subst (Closed r x) (sym e) mine
            | inr ne ↦ before.closed j (omega (arith, from, ne)) high
          ]
        ];
        gone = before.gone;
      }

  pub runs_up_to : (p m : ℕ) → IsPlace boxes p m → m ≤ limit → Same boxes r x (margin_place p m)
  runs_up_to p m at =
      let a = at.parent in let b = at.within in
      let some : 0 < length boxes = omega (arith, a, b) in
      walk_to boxes tree Agrees closes_agree opens_agree (λ le. record {
        lead = λ j high. let e : j ≡ 0 = omega (arith, high) in subst (λ (j : ℕ). run_at r.before_tops j ≡ run_at x.before_tops j) (sym e) (is.before_top 0 some ∙ sym (also.before_top 0 some));
        closed = λ j low high. absurd (omega (arith, low, high));
        gone = λ j i low high lower. absurd (omega (arith, low, high));
      }) p m at

  pub run_up_to : (p m : ℕ) → IsPlace boxes p m → m ≤ limit → run_before boxes r p m ≡ run_before boxes x p m
  run_up_to p m at le = run_same p m at.parent (runs_up_to p m at le)
