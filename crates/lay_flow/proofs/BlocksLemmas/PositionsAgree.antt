-- Positions and heights that are worked out again and again from one another come to agree with any others that are.
use Rattle.std.proofs.Common.{◌≡◌, ℕ, zero, suc, ◌+◌, ◌<◌, ◌+ℤ◌, ◌-ℤ◌, ℤ, ◌≤◌, List, length, refl, sym, ap, ◌∙◌, arith, inl, inr, Option, Some, None, subst}
use Rattle.std.proofs.lemmas.Bool.{cases_lt, cases_eq}
use Rattle.lay_flow.specs.declared.blocks.flow_box.FlowBox.{FlowBox}
use Rattle.lay_flow.specs.Blocks.Boxes.{parent_at, parents_of}
use Rattle.lay_flow.proofs.BlocksLemmas.BoxTrees.{parent_before}
use Rattle.lay_doc.specs.Tree.{IsTree}
use Rattle.lay_heights.specs.AutoHeights.{root_height_of}
use Rattle.lay_flow.specs.Blocks.Lengths.{length_at}
use Rattle.lay_flow.specs.Blocks.Children.{last_child}
use Rattle.lay_flow.specs.Blocks.MarginRuns.{block_at}
use Rattle.lay_flow.specs.Blocks.BlockLayout.{Positions, BlockLayout}
use Rattle.lay_flow.specs.Blocks.BlockPositions.{start_below, start_before, start_of, mark_of, content_height, height_of}
use Rattle.lay_flow.proofs.BlocksLemmas.ContentHeights.{content_bottom, content_inner, content_root}
use Rattle.lay_flow.proofs.BlocksLemmas.ChildPlaces.{last_same}
use Rattle.lay_flow.proofs.BlocksLemmas.MarginWalk.{walk}
use Rattle.lay_flow.proofs.BlocksLemmas.RunsAgree.{last_there, none_left}
use Rattle.lay_flow.specs.Blocks.MarginPlace.{MarginPlace, margin_place, IsAround}

-- the second columns are worked out from the first
pub record AreNextPositions (boxes : List FlowBox) (old : BlockLayout) (new : Positions) : Type 0 where
  pub start : (k : ℕ) → k < length boxes → length_at new.starts k ≡ start_of boxes old k
  pub mark : (k : ℕ) → k < length boxes → length_at new.marks k ≡ mark_of boxes old k
  pub height : (k : ℕ) → k < length boxes → length_at new.heights k ≡ height_of boxes old k

-- the columns agree up to a place
pub record SamePositions (boxes : List FlowBox) (s t : Positions) (at : MarginPlace) : Type 0 where
  pub start : (j : ℕ) → j < at.next → length_at s.starts j ≡ length_at t.starts j
  pub mark : (j : ℕ) → j < at.next → length_at s.marks j ≡ length_at t.marks j
  pub closed : (j : ℕ) → at.inner < j → j < at.next → length_at s.heights j ≡ length_at t.heights j
  pub gone : (j i : ℕ) → j < i → i < at.next → parent_at boxes i < j → length_at s.heights j ≡ length_at t.heights j

module _ (boxes : List FlowBox) (tree : IsTree (parents_of boxes)) (y : BlockLayout) (a b : ℕ → Positions)
    (a_next : (i : ℕ) → AreNextPositions boxes (record y { places = a i }) (a (suc i))) (b_next : (i : ℕ) → AreNextPositions boxes (record y { places = b i }) (b (suc i))) where
  abbrev with : Positions → BlockLayout
  with s = record y { places = s }

  -- from some time on they agree up to there
  pub record Stands (p m : ℕ) : Type 0 where
    pub after : ℕ
    pub same : (i : ℕ) → after ≤ i → SamePositions boxes (a i) (b i) (margin_place p m)

  below_same : (s t : Positions) (c : ℕ) → length_at s.starts c ≡ length_at t.starts c → length_at s.marks c ≡ length_at t.marks c → length_at s.heights c ≡ length_at t.heights c → start_below (with s) c ≡ start_below (with t) c
  below_same s t c e f g = rw (e, f, g) refl

  before_same : (s t : Positions) (p m : ℕ) → p < m → SamePositions boxes s t (margin_place p m) → start_before boxes (with s) p m ≡ start_before boxes (with t) p m
  before_same s t p m lt was = go (last_child boxes p m) refl
    where
      go : (o : Option ℕ) → last_child boxes p m ≡ o → start_before boxes (with s) p m ≡ start_before boxes (with t) p m
      go None e = let f = was.mark p lt in let g = was.start p lt in rw (e, f, g) refl
      go (Some c) e = let l = last_there boxes p m c e in rw e (below_same s t c (was.start c l.1) (was.mark c l.1) (was.closed c l.0 l.1))

  start_same : (s t : Positions) (k : ℕ) → 0 < k → start_before boxes (with s) (parent_at boxes k) k ≡ start_before boxes (with t) (parent_at boxes k) k → start_of boxes (with s) k ≡ start_of boxes (with t) k
  start_same s t zero positive e = absurd (omega (arith, positive))
  start_same s t (suc k) positive e = rw e refl

  mark_same : (s t : Positions) (k : ℕ) → 0 < k → length_at s.starts k ≡ length_at t.starts k → length_at s.marks (parent_at boxes k) ≡ length_at t.marks (parent_at boxes k) → mark_of boxes (with s) k ≡ mark_of boxes (with t) k
  mark_same s t zero positive e f = absurd (omega (arith, positive))
  mark_same s t (suc k) positive e f = rw (e, f) refl

  open_stands : (k : ℕ) → 0 < k → k < length boxes → Stands (parent_at boxes k) k → Stands k (k + 1)
  open_stands k positive within was = record {
    after = suc (suc was.after);
    same = later;
  }
    where
      less : parent_at boxes k < k
      less = parent_before boxes tree k positive within

      start : (i : ℕ) → was.after ≤ i → length_at (a (suc i)).starts k ≡ length_at (b (suc i)).starts k
      start i le = (a_next i).start k within ∙ start_same (a i) (b i) k positive (before_same (a i) (b i) (parent_at boxes k) k less (was.same i le)) ∙ sym ((b_next i).start k within)

      mark : (i : ℕ) → was.after ≤ i → length_at (a (suc (suc i))).marks k ≡ length_at (b (suc (suc i))).marks k
      mark i le = (a_next (suc i)).mark k within ∙ mark_same (a (suc i)) (b (suc i)) k positive (start i le) ((was.same (suc i) (omega (arith, le))).mark (parent_at boxes k) less) ∙ sym ((b_next (suc i)).mark k within)

      later : (i : ℕ) → suc (suc was.after) ≤ i → SamePositions boxes (a i) (b i) (margin_place k (k + 1))
      later zero le = absurd (omega (arith, le))
      later (suc zero) le = absurd (omega (arith, le))
      later (suc (suc i)) le =
          let now = was.same (suc (suc i)) (omega (arith, le)) in
          let my_start = start (suc i) (omega (arith, le)) in
          let my_mark = mark i (omega (arith, le)) in
          record {
            start = λ j high. elim (cases_lt j k) [
              | inl lt ↦ now.start j lt
              | inr ge ↦ (let e : j ≡ k = omega (arith, high, ge) in subst (λ (j : ℕ). length_at (a (suc (suc i))).starts j ≡ length_at (b (suc (suc i))).starts j) (sym e) my_start)
            ];
            mark = λ j high. elim (cases_lt j k) [
              | inl lt ↦ now.mark j lt
              | inr ge ↦ (let e : j ≡ k = omega (arith, high, ge) in subst (λ (j : ℕ). length_at (a (suc (suc i))).marks j ≡ length_at (b (suc (suc i))).marks j) (sym e) my_mark)
            ];
            closed = λ j low high. absurd (omega (arith, low, high));
            gone = λ j i low high lower. elim (cases_lt i k) [
              | inl lt ↦ now.gone j i low lt lower
              | inr ge ↦ (let e : i ≡ k = omega (arith, high, ge) in now.closed j (rw e at lower) (omega (arith, low, e)))
            ];
          }

  -- the heights of two boxes with the same ends of content
  content_same : (s t : Positions) (p m : ℕ) → last_child boxes p (length boxes) ≡ last_child boxes p m → p < m → SamePositions boxes s t (margin_place p m)
      → content_height boxes (with s) p ≡ content_height boxes (with t) p
  content_same s t p m last lt was = by_place p refl
    where
      go : (o : Option ℕ) → last_child boxes p m ≡ o → content_bottom boxes (with s) p ≡ content_bottom boxes (with t) p
      go None e = let g = last ∙ e in let f = was.mark p lt in rw (g, f) refl
      go (Some c) e = let g = last ∙ e in let l = last_there boxes p m c e in let u = below_same s t c (was.start c l.1) (was.mark c l.1) (was.closed c l.0 l.1) in let f = was.mark p lt in rw (g, u, f) refl

      bottom : content_bottom boxes (with s) p ≡ content_bottom boxes (with t) p
      bottom = go (last_child boxes p m) refl

      between : content_bottom boxes (with s) p -ℤ (length_at s.marks p +ℤ (block_at boxes p).edge_top.0) ≡ content_bottom boxes (with t) p -ℤ (length_at t.marks p +ℤ (block_at boxes p).edge_top.0)
      between = let e = bottom in let f = was.mark p lt in rw (e, f) refl

      reaches : (u v d e : ℤ) → u ≡ v → d ≡ e → root_height_of (record { 0 = u }) (record { 0 = d }) y.extents.floats ≡ root_height_of (record { 0 = v }) (record { 0 = e }) y.extents.floats
      reaches u v d e same ends = rw (same, ends) refl

      at_root : length_at s.marks 0 ≡ length_at t.marks 0 → content_bottom boxes (with s) 0 ≡ content_bottom boxes (with t) 0 → content_height boxes (with s) 0 ≡ content_height boxes (with t) 0
      at_root mark ends = content_root boxes (with s)
          ∙ reaches (length_at s.marks 0 +ℤ (block_at boxes 0).edge_top.0) (length_at t.marks 0 +ℤ (block_at boxes 0).edge_top.0) (content_bottom boxes (with s) 0) (content_bottom boxes (with t) 0)
          (ap (λ (v : ℤ). v +ℤ (block_at boxes 0).edge_top.0) mark) ends
          ∙ sym (content_root boxes (with t))

      by_place : (q : ℕ) → p ≡ q → content_height boxes (with s) p ≡ content_height boxes (with t) p
      by_place zero e = let z = sym e in
          subst (λ (k : ℕ). content_height boxes (with s) k ≡ content_height boxes (with t) k) z
          (at_root (subst (λ (k : ℕ). length_at s.marks k ≡ length_at t.marks k) e (was.mark p lt)) (subst (λ (k : ℕ). content_bottom boxes (with s) k ≡ content_bottom boxes (with t) k) e bottom))
      by_place (suc k) e = content_inner boxes (with s) p (omega (arith, e)) ∙ between ∙ sym (content_inner boxes (with t) p (omega (arith, e)))

  height_same : (s t : Positions) (p : ℕ) → content_height boxes (with s) p ≡ content_height boxes (with t) p → height_of boxes (with s) p ≡ height_of boxes (with t) p
  height_same s t p e = rw e refl

  close_stands : (p m : ℕ) → 0 < p → p < m → m ≤ length boxes → (m < length boxes → parent_at boxes m < p) → IsAround boxes p m → Stands p m → Stands (parent_at boxes p) m
  close_stands p m positive lt within ends inside was = record {
    after = suc was.after;
    same = later;
  }
    where
      inner : p < length boxes
      inner = omega (arith, lt, within)

      later : (i : ℕ) → suc was.after ≤ i → SamePositions boxes (a i) (b i) (margin_place (parent_at boxes p) m)
      later zero le = absurd (omega (arith, le))
      later (suc i) le =
          let last = last_same boxes p m (length boxes) within (none_left boxes tree p m lt ends) in
          let now = was.same (suc i) (omega (arith, le)) in
          let mine : length_at (a (suc i)).heights p ≡ length_at (b (suc i)).heights p =
          (a_next i).height p inner ∙ height_same (a i) (b i) p (content_same (a i) (b i) p m last lt (was.same i (omega (arith, le)))) ∙ sym ((b_next i).height p inner) in
          record {
            start = now.start;
            mark = now.mark;
            closed = λ j low high. elim (cases_lt j p) [
              | inl before ↦ now.gone j p before lt low
              | inr from ↦ elim (cases_eq j p) [
                | inl e ↦ subst (λ (j : ℕ). length_at (a (suc i)).heights j ≡ length_at (b (suc i)).heights j) (sym e) mine
                | inr ne ↦ now.closed j (omega (arith, from, ne)) high
              ]
            ];
            gone = now.gone;
          }

  pub stands : 0 < length boxes → Stands 0 (length boxes)
  stands some = walk boxes tree Stands close_stands open_stands (record {
    after = 1;
    same = start;
  }) some
    where
      start : (i : ℕ) → 1 ≤ i → SamePositions boxes (a i) (b i) (margin_place 0 1)
      start zero le = absurd (omega (arith, le))
      start (suc i) le = record {
        start = λ j high. let e : j ≡ 0 = omega (arith, high) in subst (λ (j : ℕ). length_at (a (suc i)).starts j ≡ length_at (b (suc i)).starts j) (sym e) ((a_next i).start 0 some ∙ sym ((b_next i).start 0 some));
        mark = λ j high. let e : j ≡ 0 = omega (arith, high) in subst (λ (j : ℕ). length_at (a (suc i)).marks j ≡ length_at (b (suc i)).marks j) (sym e) ((a_next i).mark 0 some ∙ sym ((b_next i).mark 0 some));
        closed = λ j low high. absurd (omega (arith, low, high));
        gone = λ j i low high lower. absurd (omega (arith, low, high));
      }

  -- all columns agree
  pub record AllSamePositions (s t : Positions) : Type 0 where
    pub start : (j : ℕ) → j < length boxes → length_at s.starts j ≡ length_at t.starts j
    pub mark : (j : ℕ) → j < length boxes → length_at s.marks j ≡ length_at t.marks j
    pub height : (j : ℕ) → j < length boxes → length_at s.heights j ≡ length_at t.heights j

  pub all_positions : (some : 0 < length boxes) (i : ℕ) → (stands some).after ≤ i → AllSamePositions (a (suc i)) (b (suc i))
  all_positions some i le =
      let was = (stands some).same i le in
      let now = (stands some).same (suc i) (omega (arith, le)) in
      let last : last_child boxes 0 (length boxes) ≡ last_child boxes 0 (length boxes) = refl in
      record {
        start = now.start;
        mark = now.mark;
        height = λ j within. elim (cases_lt 0 j) [
          | inl positive ↦ now.closed j positive within
          | inr ge ↦ (let e : j ≡ 0 = omega (arith, ge) in subst (λ (j : ℕ). length_at (a (suc i)).heights j ≡ length_at (b (suc i)).heights j) (sym e)
              ((a_next i).height 0 some ∙ height_same (a i) (b i) 0 (content_same (a i) (b i) 0 (length boxes) last some was) ∙ sym ((b_next i).height 0 some)))
        ];
      }
