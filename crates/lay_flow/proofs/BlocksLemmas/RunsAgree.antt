-- Columns of runs that are worked out again and again from one another, each time from all columns before, come to agree
-- with any others that are. So the equations of runs have one solution, and there is one.
use Rattle.std.proofs.Common.{◌≡◌, ℕ, zero, suc, ◌+◌, ◌<◌, ◌≤◌, ◌&&◌, Bool, true, false, List, length, refl, sym, ap, ◌∙◌, arith, inl, inr, Option, Some, None, subst}
use Rattle.std.proofs.lemmas.Bool.{cases_lt, cases_eq}
use Rattle.lay_flow.specs.declared.blocks.flow_box.FlowBox.{FlowBox}
use Rattle.lay_flow.specs.Blocks.Boxes.{parent_at, parents_of}
use Rattle.lay_flow.proofs.BlocksLemmas.BoxTrees.{parent_before, parents_together}
use Rattle.lay_doc.specs.Tree.{IsTree}
use Rattle.lay_flow.specs.Blocks.Children.{is_child, last_child, flag_at}
use Rattle.lay_flow.specs.Blocks.MarginRuns.{Runs, Entry, has_top, block_at, run_at, run_before, may_collapse_through, through_of, before_top_of, to_bottom_of, top_run_of, bottom_run_of}
use Rattle.lay_flow.proofs.BlocksLemmas.ChildPlaces.{not_child, last_same}
use Rattle.lay_flow.proofs.BlocksLemmas.MarginWalk.{walk}
use Rattle.lay_flow.specs.Blocks.MarginPlace.{MarginPlace, margin_place, IsAround}

child_low : (boxes : List FlowBox) (p k : ℕ) → is_child boxes p k ≡ true → p < k
child_low boxes p k t = grind (arith, t)

pub last_there : (boxes : List FlowBox) (p m s : ℕ) → last_child boxes p m ≡ Some s → (p < s) × (s < m)
last_there boxes p zero s e = absurd (grind (arith, e))
last_there boxes p (suc k) s e = go (is_child boxes p k) refl (last_there boxes p k s)
  where
    go : (b : Bool) → is_child boxes p k ≡ b → (last_child boxes p k ≡ Some s → (p < s) × (s < k)) → (p < s) × (s < suc k)
    go true t before = let f : Some k ≡ Some s = sym (rw t refl) ∙ e in let g : k ≡ s = grind (arith, f) in let l = child_low boxes p k t in (omega (arith, l, g), omega (arith, g))
    go false t before = let f : last_child boxes p k ≡ Some s = sym (rw t refl) ∙ e in let h = before f in let h0 = h.0 in let h1 = h.1 in (h0, omega (arith, h1))

-- no child of p stands after its subtree
pub none_left : (boxes : List FlowBox) → IsTree (parents_of boxes) → (p m : ℕ) → p < m → (m < length boxes → parent_at boxes m < p) → (k : ℕ) → m ≤ k → k < length boxes → is_child boxes p k ≡ false
none_left boxes tree p m lt ends k le within = not_child boxes p k (λ low e. elim (cases_eq k m) [
  | inl same ↦ (let a = ends (omega (arith, le, within)) in let b = ap (parent_at boxes) same in omega (arith, a, b, e))
  | inr ne ↦ (let a = ends (omega (arith, le, within)) in
      let t = parents_together boxes tree m k (omega (arith, le, ne)) within (omega (arith, e, lt)) in omega (arith, a, t, e))
])

-- the second columns are worked out from the first
pub record AreNext (boxes : List FlowBox) (r x : Runs) : Type 0 where
  pub through : (k : ℕ) → k < length boxes → flag_at x.through k ≡ through_of boxes r k
  pub before_top : (k : ℕ) → k < length boxes → run_at x.before_tops k ≡ before_top_of boxes r k
  pub to_bottom : (k : ℕ) → k < length boxes → run_at x.to_bottoms k ≡ to_bottom_of boxes r k
  pub top_run : (k : ℕ) → k < length boxes → run_at x.top_runs k ≡ top_run_of boxes r k
  pub bottom_run : (k : ℕ) → k < length boxes → run_at x.bottom_runs k ≡ bottom_run_of boxes r k

-- the box was closed alike
pub record Closed (r x : Runs) (j : ℕ) : Type 0 where
  pub pass : flag_at r.through j ≡ flag_at x.through j
  pub tail : run_at r.to_bottoms j ≡ run_at x.to_bottoms j

-- the columns agree up to a place
pub record Same (boxes : List FlowBox) (r x : Runs) (at : MarginPlace) : Type 0 where
  pub lead : (j : ℕ) → j < at.next → run_at r.before_tops j ≡ run_at x.before_tops j
  pub closed : (j : ℕ) → at.inner < j → j < at.next → Closed r x j
  pub gone : (j i : ℕ) → j < i → i < at.next → parent_at boxes i < j → Closed r x j

module _ (boxes : List FlowBox) where
  pub before_same : (r x : Runs) (p m : ℕ) → run_at r.before_tops p ≡ run_at x.before_tops p → ((s : ℕ) → p < s → s < m → run_at r.to_bottoms s ≡ run_at x.to_bottoms s) → run_before boxes r p m ≡ run_before boxes x p m
  before_same r x p m lead tails = go (last_child boxes p m) refl
    where
      go : (o : Option ℕ) → last_child boxes p m ≡ o → run_before boxes r p m ≡ run_before boxes x p m
      go None e = rw (e, lead) refl
      go (Some s) e = let l = last_there boxes p m s e in rw (e, tails s l.0 l.1) refl

  pub lead_same : (r x : Runs) (k : ℕ) → 0 < k → flag_at r.clears k ≡ flag_at x.clears k → run_before boxes r (parent_at boxes k) k ≡ run_before boxes x (parent_at boxes k) k → before_top_of boxes r k ≡ before_top_of boxes x k
  lead_same r x zero positive c e = absurd (omega (arith, positive))
  lead_same r x (suc k) positive c e = rw (c, e) refl

  pub pass_same : (r x : Runs) (p : ℕ) → 0 < p → run_before boxes r p (length boxes) ≡ run_before boxes x p (length boxes) → through_of boxes r p ≡ through_of boxes x p
  pass_same r x zero positive e = absurd (omega (arith, positive))
  pass_same r x (suc p) positive e = ap (λ (run : List Entry). may_collapse_through (block_at boxes (suc p)) && has_top (suc p) run) e

  pub tail_same : (r x : Runs) (p : ℕ) → 0 < p → flag_at r.through p ≡ flag_at x.through p → run_before boxes r p (length boxes) ≡ run_before boxes x p (length boxes) → to_bottom_of boxes r p ≡ to_bottom_of boxes x p
  tail_same r x zero positive f e = absurd (omega (arith, positive))
  tail_same r x (suc p) positive f e = rw (f, e) refl

module _ (boxes : List FlowBox) (tree : IsTree (parents_of boxes)) (a b : ℕ → Runs)
    (a_next : (i : ℕ) → AreNext boxes (a i) (a (suc i))) (b_next : (i : ℕ) → AreNext boxes (b i) (b (suc i)))
    (clears : (i k : ℕ) → flag_at (a i).clears k ≡ flag_at (b i).clears k) where
  -- from some time on they agree up to there
  pub record Settles (p m : ℕ) : Type 0 where
    pub after : ℕ
    pub same : (i : ℕ) → after ≤ i → Same boxes (a i) (b i) (margin_place p m)

  open_settles : (k : ℕ) → 0 < k → k < length boxes → Settles (parent_at boxes k) k → Settles k (k + 1)
  open_settles k positive within was = record {
    after = suc was.after;
    same = later;
  }
    where
      later : (i : ℕ) → suc was.after ≤ i → Same boxes (a i) (b i) (margin_place k (k + 1))
      later zero le = absurd (omega (arith, le))
      later (suc i) le =
          let before = was.same i (omega (arith, le)) in
          let now = was.same (suc i) (omega (arith, le)) in
          let come = before_same boxes (a i) (b i) (parent_at boxes k) k (before.lead (parent_at boxes k) (parent_before boxes tree k positive within)) (λ s low high. (before.closed s low high).tail) in
          let mine : run_at (a (suc i)).before_tops k ≡ run_at (b (suc i)).before_tops k =
          (a_next i).before_top k within ∙ lead_same boxes (a i) (b i) k positive (clears i k) come ∙ sym ((b_next i).before_top k within) in
          record {
            lead = λ j high. elim (cases_lt j k) [
              | inl lt ↦ now.lead j lt
              | inr ge ↦ (let e : j ≡ k = omega (arith, high, ge) in subst (λ (j : ℕ). run_at (a (suc i)).before_tops j ≡ run_at (b (suc i)).before_tops j) (sym e) mine)
            ];
            closed = λ j low high. absurd (omega (arith, low, high));
            gone = λ j i low high lower. elim (cases_lt i k) [
              | inl lt ↦ now.gone j i low lt lower
              | inr ge ↦ (let e : i ≡ k = omega (arith, high, ge) in now.closed j (rw e at lower) (omega (arith, low, e)))
            ];
          }

  close_settles : (p m : ℕ) → 0 < p → p < m → m ≤ length boxes → (m < length boxes → parent_at boxes m < p) → IsAround boxes p m → Settles p m → Settles (parent_at boxes p) m
  close_settles p m positive lt within ends inside was = record {
    after = suc (suc was.after);
    same = later;
  }
    where
      inner : p < length boxes
      inner = omega (arith, lt, within)

      come : (i : ℕ) → was.after ≤ i → run_before boxes (a i) p (length boxes) ≡ run_before boxes (b i) p (length boxes)
      come i le = let s = was.same i le in
          let here = before_same boxes (a i) (b i) p m (s.lead p lt) (λ t low high. (s.closed t low high).tail) in
          let last = last_same boxes p m (length boxes) within (none_left boxes tree p m lt ends) in rw last here

      pass : (i : ℕ) → was.after ≤ i → flag_at (a (suc i)).through p ≡ flag_at (b (suc i)).through p
      pass i le = (a_next i).through p inner ∙ pass_same boxes (a i) (b i) p positive (come i le) ∙ sym ((b_next i).through p inner)

      tail : (i : ℕ) → was.after ≤ i → run_at (a (suc (suc i))).to_bottoms p ≡ run_at (b (suc (suc i))).to_bottoms p
      tail i le = (a_next (suc i)).to_bottom p inner
          ∙ tail_same boxes (a (suc i)) (b (suc i)) p positive (pass i le) (come (suc i) (omega (arith, le)))
          ∙ sym ((b_next (suc i)).to_bottom p inner)

      later : (i : ℕ) → suc (suc was.after) ≤ i → Same boxes (a i) (b i) (margin_place (parent_at boxes p) m)
      later zero le = absurd (omega (arith, le))
      later (suc zero) le = absurd (omega (arith, le))
      later (suc (suc i)) le =
          let now = was.same (suc (suc i)) (omega (arith, le)) in
          let mine : Closed (a (suc (suc i))) (b (suc (suc i))) p = record { pass = pass (suc i) (omega (arith, le)); tail = tail i (omega (arith, le)) } in
          record {
            lead = now.lead;
            closed = λ j low high. elim (cases_lt j p) [
              | inl before ↦ now.gone j p before lt low
              | inr from ↦ elim (cases_eq j p) [
                | inl e ↦ subst (Closed (a (suc (suc i))) (b (suc (suc i)))) (sym e) mine
                | inr ne ↦ now.closed j (omega (arith, from, ne)) high
              ]
            ];
            gone = now.gone;
          }

  pub settles : 0 < length boxes → Settles 0 (length boxes)
  settles some = walk boxes tree Settles close_settles open_settles (record {
    after = 1;
    same = start;
  }) some
    where
      start : (i : ℕ) → 1 ≤ i → Same boxes (a i) (b i) (margin_place 0 1)
      start zero le = absurd (omega (arith, le))
      start (suc i) le = record {
        lead = λ j high. let e : j ≡ 0 = omega (arith, high) in subst (λ (j : ℕ). run_at (a (suc i)).before_tops j ≡ run_at (b (suc i)).before_tops j) (sym e)
            ((a_next i).before_top 0 some ∙ sym ((b_next i).before_top 0 some));
        closed = λ j low high. absurd (omega (arith, low, high));
        gone = λ j i low high lower. absurd (omega (arith, low, high));
      }
